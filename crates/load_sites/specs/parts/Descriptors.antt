-- Descriptors by the values of sites.
use Rattle.std.specs.Prelude.{ℕ, List, length, take, Option, None, option_map, Ok, if◌then◌else◌}
use Rattle.std.specs.List.{filter_map, zip}
use Rattle.elf_model.specs.declared.func.Func.{Func}
use Rattle.elf_model.specs.declared.object.Object.{Object}
use Rattle.elf_model.specs.declared.object.Rel.{Rel}
use Rattle.load_model.specs.declared.meaning.SiteValue.{SiteValue}
use Rattle.load_model.specs.Descriptors.{is_private, pair_of, descriptor_of}

-- the private descriptor at a site with this value
abbrev pub private_by : Object → Rel × SiteValue → Option (Func × ℕ)
private_by o e = if is_private o e.0 then option_map (λ f. (f, e.0.site)) (pair_of (Ok e.1)) else None

-- those at the sites of DT_REL, whose values come first
abbrev pub privates_by : Object → List SiteValue → List (Func × ℕ)
privates_by o values = filter_map (private_by o) (zip o.rels values)

-- the functions whose descriptor's address is written there
abbrev pub all_asked_by : Object → List SiteValue → List Func
all_asked_by o values = filter_map (λ v. descriptor_of (Ok v)) (take (length o.rels) values)
