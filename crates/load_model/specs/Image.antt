-- The placed bytes of a module. Each segment lies by itself, and a function is called by its entry point and the GOT of
-- its module (Arm FDPIC ABI, "Function Descriptors"; ELF for the Arm Architecture, "Dynamic relocations").
use Rattle.std.specs.Prelude.{◌≡◌, ℕ, ◌+◌, ◌-◌, ◌*◌, ◌<◌, Bool, ◌&&◌, nat_le, nat_lt, List, [], ◌∷◌, ◌++◌, length, slice_index, Option, Some, None, Result, Ok, Err, unwrap_or, if◌then◌else◌}
use Rattle.std.specs.Option.{option_map_or}
use Rattle.std.specs.List.{AllZip, flat_map}
use Rattle.std.specs.Int.{w32, to_le_bytes}
use Rattle.load_map.specs.declared.entry.MapEntry.{MapEntry}
use Rattle.load_map.specs.Translation.{placed}
use Rattle.elf_model.specs.declared.func.Func.{Func}
use Rattle.elf_model.specs.declared.object.Object.{Object}
use Rattle.elf_model.specs.declared.object.Rel.{Rel}
use Rattle.elf_model.specs.Places.{file_byte}
use Rattle.arm_relocs.specs.Value.{apply_value}
use Rattle.load_model.specs.declared.error.LoadRefusal.{LoadRefusal}
use Rattle.load_model.specs.declared.layout.TheConstants.{RESOLVER, LOAD_MAPS, LOAD_MAP_SIZE}
use Rattle.load_model.specs.declared.meaning.SiteValue.{SiteValue}
use Rattle.load_model.specs.declared.meaning.SiteValue.TheVariants.{Place, Formula, Pair, Stub, Descriptor}
use Rattle.load_model.specs.declared.meaning.Value.{Value}
use Rattle.load_model.specs.declared.meaning.Value.TheVariants.{Address, Number}
use Rattle.load_model.specs.declared.words.LinkWord.{LinkWord}
use Rattle.load_model.specs.Definition.{Linkage}
use Rattle.load_model.specs.Sites.{addend_of}
use Rattle.load_model.specs.Unbound.{standing_value}
use Rattle.elf_model.specs.Filled.{sites_of}

-- where modules are placed: the load map of each, the link address of its GOT, and the addresses at which its load map and
-- each function's descriptor stand
pub record Placing : Type 0 where
  pub maps : ℕ → List MapEntry
  pub gots : ℕ → Option ℕ
  pub load_maps : ℕ → ℕ
  pub descriptors : Func → Option ℕ

-- ---- placed addresses

abbrev pub place_of : Placing → Func → ℕ
place_of p f = placed (p.maps f.module) f.value

abbrev pub got_of : Placing → ℕ → ℕ
got_of p m = option_map_or (placed (p.maps m)) (p.gots m) 0

abbrev pub number_of_value : Placing → Value → ℕ
number_of_value p (Address f) = place_of p f
number_of_value p (Number n) = n

-- the address of the load map of a module of the first process
abbrev pub load_map_at : ℕ → ℕ
load_map_at number = LOAD_MAPS + LOAD_MAP_SIZE * number

-- ---- words

-- The three words of the header of the GOT: they are the loader's to choose, and the ones here are this loader's own.
abbrev pub got_words : Placing → ℕ → ℕ → List LinkWord
got_words p number got =
    record { addr = got; value = RESOLVER }
    ∷ record { addr = got + 4; value = number }
    ∷ record { addr = got + 8; value = p.load_maps number }
    ∷ []

abbrev pub word_at : ℕ → ℕ → List LinkWord
word_at site value = record { addr = site; value = value } ∷ []

-- an entry point and a GOT
abbrev pub pair_at : ℕ → ℕ → ℕ → List LinkWord
pair_at site code got = record { addr = site; value = code } ∷ record { addr = site + 4; value = got } ∷ []

abbrev pub pair_words : Placing → ℕ → Option Func → List LinkWord
pair_words p site None = pair_at site 0 0
pair_words p site (Some f) = pair_at site (place_of p f) (got_of p f.module)

abbrev pub descriptor_word : Placing → ℕ → Option Func → List LinkWord
descriptor_word p site None = word_at site 0
descriptor_word p site (Some f) = word_at site (unwrap_or (p.descriptors f) 0)

-- what a site of module m holds
abbrev pub value_words : Placing → ℕ → Object → Rel → SiteValue → List LinkWord
value_words p m o r (Place f) = word_at r.site (place_of p f)
value_words p m o r (Formula v) =
    word_at r.site (unwrap_or (apply_value r.kind (number_of_value p v) (addend_of o r) (placed (p.maps m) r.site) (got_of p m)) 0)
value_words p m o r (Pair f) = pair_words p r.site f
value_words p m o r (Stub z) = pair_at r.site (placed (p.maps m) z) (got_of p m)
value_words p m o r (Descriptor f) = descriptor_word p r.site f

abbrev pub words_for : Placing → ℕ → Object → Rel → Result SiteValue LoadRefusal → List LinkWord
words_for p m o r (Ok value) = value_words p m o r value
words_for p m o r (Err refusal) = []

-- what stands over the bytes of the file while these slots are unbound
abbrev pub words_of : Linkage → Placing → ℕ → Object → List Bool → List LinkWord
words_of l p m o unbound = got_words p m o.got ++ flat_map (λ s. words_for p m o s.rel (standing_value l m o unbound s)) (sites_of o)

-- ---- bytes

-- whether a word covers a link address
abbrev pub is_in_word : LinkWord → ℕ → Bool
is_in_word w v = nat_le w.addr v && nat_lt v (w.addr + 4)

-- the byte at a link address: that of the first word that covers it, little-endian, or else the one below
abbrev pub byte_over : List LinkWord → (ℕ → ℕ) → ℕ → ℕ
byte_over [] below v = below v
byte_over (w ∷ ws) below v =
    if is_in_word w v then slice_index (to_le_bytes w32 w.value) (v - w.addr) else byte_over ws below v

-- The byte at a link address of module m, these slots of which are unbound: what loading or binding writes there, or the
-- file's byte or zero.
abbrev pub image_of : Linkage → Placing → ℕ → Object → List Bool → ℕ → ℕ
image_of l p m o unbound v = byte_over (words_of l p m o unbound) (file_byte o.segments) v

-- the bytes of one placed segment
pub record IsPart (l : Linkage) (p : Placing) (m : ℕ) (o : Object) (unbound : List Bool) (e : MapEntry) (part : List ℕ) : Type 0 where
  pub len : length part ≡ e.memsz
  pub bytes : (i : ℕ) → i < e.memsz → slice_index part i ≡ image_of l p m o unbound (e.vaddr + i)

-- the bytes of each placed segment
abbrev pub IsImage : Linkage → Placing → ℕ → Object → List Bool → List MapEntry → List (List ℕ) → Type 0
IsImage l p m o unbound load_map parts = AllZip (IsPart l p m o unbound) load_map parts
