-- Each site has room for its value.
use Rattle.std.proofs.Common.{◌≡◌, List, [], ◌∷◌, length, ◌∙◌}
use Rattle.std.specs.List.{AllZip}
use Rattle.std.proofs.lemmas.List.{length-map}
use Rattle.load_model.specs.declared.meaning.SiteValue.{SiteValue}
use Rattle.load_model.specs.declared.module.Joining.{Joining}
use Rattle.load_model.specs.Definition.{Linkage}
use Rattle.load_model.specs.Linkage.{members_of}
use Rattle.load_sites.specs.parts.Values.{AreValuesOf, IsValues}
use Rattle.load_image.specs.parts.Words.{FitSites}
use Rattle.load_image.proofs.FilledRanges.{fit_sites}
use Rattle.fd_base.proofs.Lists.{zip_length}

pub all_fit : (l : Linkage) (joining : List Joining) (values : List (List SiteValue)) → IsValues l joining values → AllZip (λ j v. FitSites j.object v) joining values
all_fit l [] [] all = tt
all_fit l [] (v ∷ values) all = absurd all
all_fit l (j ∷ joining) [] all = absurd all
all_fit l (j ∷ joining) (v ∷ values) all = (fit_sites l j.number j.object v all.0, all_fit l joining values all.1)

pub values_count : (l : Linkage) (joining : List Joining) (values : List (List SiteValue)) → IsValues l joining values → length values ≡ length joining
values_count l joining values all = zip_length (AreValuesOf l) (members_of joining) values all ∙ length-map joining (λ (j : Joining). (j.number, j.object))
