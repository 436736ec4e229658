-- What holds of symbols and sites.
use Rattle.std.specs.Prelude.{◌≡◌, ◌⊎◌, ℕ, ◌+◌, ◌^◌, ◌≤◌, true, Option, Some, None, Ok, All, Contains}
use Rattle.elf_model.specs.declared.func.Func.{Func}
use Rattle.elf_model.specs.declared.object.Object.{Object}
use Rattle.elf_model.specs.declared.object.Rel.{Rel}
use Rattle.elf_model.specs.declared.object.Symbol.{Symbol}
use Rattle.elf_model.specs.Sound.{IsSound}
use Rattle.load_model.specs.declared.meaning.Definition.TheVariants.{Symbol as Is}
use Rattle.load_model.specs.declared.meaning.SiteValue.{SiteValue}
use Rattle.load_model.specs.declared.meaning.SiteValue.TheVariants.{Place as Placed, Formula, Pair, Stub, Descriptor}
use Rattle.load_model.specs.declared.meaning.Value.{Value}
use Rattle.load_model.specs.declared.meaning.Value.TheVariants.{Address, Number}
use Rattle.load_model.specs.Definition.{Linkage, is_own, symbol_at, definition_of}
use Rattle.load_model.specs.Sites.{site_value, refusals_of, is_placed, is_code}
use Rattle.elf_model.specs.Filled.{site_relocations}

-- a symbol that is its own definition means itself, whatever modules there are
abbrev pub OwnSymbolsStayHome : Type 0
OwnSymbolsStayHome =
    (l : Linkage) (m : ℕ) (o : Object) (s : ℕ) (symbol : Symbol) → symbol_at o s ≡ Some symbol → is_own symbol ≡ true
    → definition_of l m o s ≡ Is (record { «module» = m; symbol = s })

-- two linkages have one scope of module m, and one object of it and of each module in that scope
pub record AgreeFor (l k : Linkage) (m : ℕ) : Type 0 where
  pub scopes : k.scopes m ≡ l.scopes m
  pub own : k.objects m ≡ l.objects m
  pub members : All (λ n. k.objects n ≡ l.objects n) (l.scopes m)

-- in both of them the symbols and the sites of module m mean the same
pub record MeanTheSame (l k : Linkage) (m : ℕ) (o : Object) : Type 0 where
  pub definitions : (s : ℕ) → definition_of k m o s ≡ definition_of l m o s
  pub values : (r : Rel) → site_value k m o r ≡ site_value l m o r
  pub refusals : refusals_of k m o ≡ refusals_of l m o

abbrev pub LookUpsAgree : Type 0
LookUpsAgree = (l k : Linkage) (m : ℕ) (o : Object) → AgreeFor l k m → MeanTheSame l k m o

-- module n is m, or is one in which the symbols of m are looked up
abbrev pub IsNear : Linkage → ℕ → ℕ → Type 0
IsNear l m n = (n ≡ m) ⊎ Contains (l.scopes m) n

-- the place or the function that a value names; a stub is the module's own
abbrev pub named_value : Value → Option Func
named_value (Address f) = Some f
named_value (Number n) = None

abbrev pub named_by : SiteValue → Option Func
named_by (Placed f) = Some f
named_by (Formula v) = named_value v
named_by (Pair f) = f
named_by (Stub z) = None
named_by (Descriptor f) = f

-- what the sites of a module name is in itself, or in a module of its scope
abbrev pub SitesNameNearModules : Type 0
SitesNameNearModules =
    (l : Linkage) (m : ℕ) (o : Object) (r : Rel) (v : SiteValue) (f : Func) → site_value l m o r ≡ Ok v → named_by v ≡ Some f → IsNear l m f.module

-- what a slot or a descriptor leads to is code
pub record SlotsLeadToCode : Type 0 where
  pub pairs : (l : Linkage) (m : ℕ) (o : Object) (r : Rel) (f : Func) → site_value l m o r ≡ Ok (Pair (Some f)) → is_code l f ≡ true
  pub descriptors : (l : Linkage) (m : ℕ) (o : Object) (r : Rel) (f : Func) → site_value l m o r ≡ Ok (Descriptor (Some f)) → is_code l f ≡ true

-- every link address whose placed address is written has one
pub record PlacedValuesHavePlaces : Type 0 where
  pub places : (l : Linkage) (m : ℕ) (o : Object) (r : Rel) (f : Func) → site_value l m o r ≡ Ok (Placed f) → is_placed l f ≡ true
  pub formulas : (l : Linkage) (m : ℕ) (o : Object) (r : Rel) (f : Func) → site_value l m o r ≡ Ok (Formula (Address f)) → is_placed l f ≡ true

-- each site of a sound object has its word within the link addresses
abbrev pub SitesHaveWords : Type 0
SitesHaveWords = (o : Object) → IsSound o → All (λ r. r.site + 4 ≤ 2 ^ 32) (site_relocations o)
