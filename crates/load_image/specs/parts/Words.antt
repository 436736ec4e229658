-- The words that loading writes at sites whose values are known.
use Rattle.std.specs.Prelude.{◌≡◌, ℕ, Bool, List, [], ◌∷◌, ◌++◌, map, Ok}
use Rattle.std.specs.List.{AllZip}
use Rattle.elf_model.specs.declared.constants.TheConstants.{R_ARM_FUNCDESC_VALUE}
use Rattle.elf_model.specs.declared.filled.FilledSite.{FilledSite}
use Rattle.elf_model.specs.declared.object.Object.{Object}
use Rattle.elf_model.specs.declared.object.Rel.{Rel}
use Rattle.load_model.specs.declared.meaning.SiteValue.{SiteValue}
use Rattle.load_model.specs.declared.meaning.SiteValue.TheVariants.{Place, Formula, Pair, Stub, Descriptor}
use Rattle.load_model.specs.declared.words.LinkWord.{LinkWord}
use Rattle.load_model.specs.Definition.{Linkage}
use Rattle.load_model.specs.Image.{Placing, got_words, value_words}
use Rattle.load_model.specs.Sites.{site_value}
use Rattle.load_model.specs.Unbound.{stub_or, waits}
use Rattle.elf_model.specs.Filled.{site_relocations, sites_of}

-- what loading writes at the sites of module m is known: these values, in the order of the sites
abbrev pub HasValues : Linkage → ℕ → Object → List SiteValue → Type 0
HasValues l m o values = map (site_value l m o) (site_relocations o) ≡ map Ok values

-- a site has room for a value: two words for R_ARM_FUNCDESC_VALUE alone
abbrev pub HasRoom : Rel → SiteValue → Type 0
HasRoom r (Place f) = Unit {0}
HasRoom r (Formula v) = Unit {0}
HasRoom r (Pair f) = r.kind ≡ R_ARM_FUNCDESC_VALUE
HasRoom r (Stub z) = r.kind ≡ R_ARM_FUNCDESC_VALUE
HasRoom r (Descriptor f) = Unit {0}

-- a value for each site, which has room for it
abbrev pub FitSites : Object → List SiteValue → Type 0
FitSites o values = AllZip HasRoom (site_relocations o) values

-- the words of these sites, with their values, while these slots are unbound
abbrev pub words_by : Placing → ℕ → Object → List Bool → List FilledSite → List SiteValue → List LinkWord
words_by p m o unbound [] values = []
words_by p m o unbound (s ∷ ss) [] = []
words_by p m o unbound (s ∷ ss) (value ∷ values) = value_words p m o s.rel (stub_or (waits unbound s) o s.rel value) ++ words_by p m o unbound ss values

-- all words that loading writes into module m, whose sites have these values, while these slots are unbound
abbrev pub words_with : Placing → ℕ → Object → List Bool → List SiteValue → List LinkWord
words_with p m o unbound values = got_words p m o.got ++ words_by p m o unbound (sites_of o) values
