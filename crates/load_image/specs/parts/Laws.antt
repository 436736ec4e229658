-- What the image of a module depends on, and what stands in it.
use Rattle.std.specs.Prelude.{◌≡◌, ℕ, ◌+◌, ◌<◌, ◌≤◌, ◌⊎◌, Bool, List, slice_index, None, Some, Ok, All, Contains, IfOk}
use Rattle.std.specs.Int.{w32, to_le_bytes}
use Rattle.elf_model.specs.declared.filled.FilledSite.{FilledSite}
use Rattle.elf_model.specs.declared.object.Object.{Object}
use Rattle.elf_model.specs.declared.table.Site.{Site}
use Rattle.elf_model.specs.Places.{file_byte, filled_ranges}
use Rattle.elf_model.specs.Sound.{IsSound}
use Rattle.load_model.specs.declared.meaning.SiteValue.{SiteValue}
use Rattle.load_model.specs.declared.meaning.SiteValue.TheVariants.{Place, Formula, Pair, Stub, Descriptor}
use Rattle.load_model.specs.declared.meaning.Value.TheVariants.{Address, Number}
use Rattle.load_model.specs.declared.words.LinkWord.{LinkWord}
use Rattle.load_model.specs.Definition.{Linkage}
use Rattle.load_model.specs.Image.{Placing, got_words, image_of, value_words}
use Rattle.load_model.specs.Sites.{site_value}
use Rattle.load_model.specs.Unbound.{standing_value}
use Rattle.elf_model.specs.Filled.{site_relocations, sites_of}

-- ---- the frame

-- a module is placed alike
pub record SamePlace (p q : Placing) (m : ℕ) : Type 0 where
  pub map : p.maps m ≡ q.maps m
  pub got : p.gots m ≡ q.gots m

-- whatever a value names is placed alike: the module of a link address, the module of a function and its GOT, or the
-- descriptor of a function; a stub is the module's own
abbrev pub AgreeAt : Placing → Placing → SiteValue → Type 0
AgreeAt p q (Place f) = p.maps f.module ≡ q.maps f.module
AgreeAt p q (Formula (Address f)) = p.maps f.module ≡ q.maps f.module
AgreeAt p q (Formula (Number n)) = Unit {0}
AgreeAt p q (Pair None) = Unit {0}
AgreeAt p q (Pair (Some f)) = SamePlace p q f.module
AgreeAt p q (Stub z) = Unit {0}
AgreeAt p q (Descriptor None) = Unit {0}
AgreeAt p q (Descriptor (Some f)) = p.descriptors f ≡ q.descriptors f

-- the sites of module m have the same values, and these name what is placed alike, as m itself and its load map are
pub record SameSites (l k : Linkage) (p q : Placing) (m : ℕ) (o : Object) : Type 0 where
  pub own : SamePlace p q m
  pub load_map : p.load_maps m ≡ q.load_maps m
  pub values : All (λ r. site_value l m o r ≡ site_value k m o r) (site_relocations o)
  pub named : All (λ r. IfOk (site_value l m o r) (AgreeAt p q)) (site_relocations o)

-- ---- what stands in an image

-- the four bytes of a word, from the lowest
abbrev pub HasWord : (ℕ → ℕ) → LinkWord → Type 0
HasWord byte_at w = (i : ℕ) → i < 4 → byte_at (w.addr + i) ≡ slice_index (to_le_bytes w32 w.value) i

-- a link address is none of a range
abbrev pub IsOffSite : ℕ → Site → Type 0
IsOffSite v s = (v < s.addr) ⊎ (s.addr + s.size ≤ v)

-- the law
pub record SitesHoldTheirWords : Type 0 where
  pub sites : (l : Linkage) (p : Placing) (m : ℕ) (o : Object) (unbound : List Bool) (s : FilledSite) (value : SiteValue) → IsSound o → Contains (sites_of o) s
      → standing_value l m o unbound s ≡ Ok value → All (HasWord (image_of l p m o unbound)) (value_words p m o s.rel value)
  pub header : (l : Linkage) (p : Placing) (m : ℕ) (o : Object) (unbound : List Bool) → IsSound o → All (HasWord (image_of l p m o unbound)) (got_words p m o.got)
  pub others : (l : Linkage) (p : Placing) (m : ℕ) (o : Object) (unbound : List Bool) (v : ℕ) → IsSound o → All (IsOffSite v) (filled_ranges o)
      → image_of l p m o unbound v ≡ file_byte o.segments v
