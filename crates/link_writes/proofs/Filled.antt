-- What the loader fills for a need and for a relocation lies in their ranges.
use Rattle.std.proofs.Common.{◌≡◌, refl, sym, subst, ℕ, ◌+◌, ◌%◌, ◌≤◌, inl, inr, Bool, true, false, cond, not, ◌&&◌, ◌||◌, List, [], ◌∷◌, ◌++◌, arith, All, AllPairs}
use Rattle.std.specs.Prelude.{◌==◌, Contains}
use Rattle.std.proofs.lemmas.Bool.{or_cases, eqb-true, false≢true}
use Rattle.std.proofs.lemmas.List.Elements.{All-nil, All-cons}
use Rattle.std.proofs.lemmas.List.Kept.{AllPairs-cons}
use Rattle.fd_base.proofs.Lists.{pairs_of_none, pairs_of_one}
use Rattle.fd_base.proofs.Members.{nothing_in}
use Rattle.elf_model.specs.declared.constants.TheConstants.{R_ARM_ABS32, R_ARM_TARGET1, R_ARM_RELATIVE, R_ARM_GLOB_DAT, R_ARM_FUNCDESC, R_ARM_FUNCDESC_VALUE}
use Rattle.elf_model.specs.declared.object.Rel.{Rel}
use Rattle.elf_model.specs.declared.relocatable.RelObject.{RelObject}
use Rattle.elf_model.specs.declared.table.Site.{Site}
use Rattle.elf_model.specs.Places.{site_of_rel}
use Rattle.elf_model.specs.Relocations.{site_size}
use Rattle.elf_model.specs.Sound.{RangesApart}
use Rattle.link_model.specs.declared.input.Mode.{Mode}
use Rattle.link_model.specs.declared.need.Need.{Need}
use Rattle.link_model.specs.declared.need.Need.TheVariants.{Word, FuncWord, Descriptor, NoFunction, Slot}
use Rattle.link_model.specs.declared.target.Target.{Target}
use Rattle.link_model.specs.DynamicRels.{descriptor_rels, need_rels}
use Rattle.link_model.specs.DynamicSymbols.{symbol_index}
use Rattle.link_model.specs.Inputs.{InputRel}
use Rattle.link_model.specs.Needs.{target_at}
use Rattle.link_model.specs.Places.{need_place}
use Rattle.link_model.specs.Sites.{site_address, is_address_kind, dynamic_rel, address_rels, site_rels}
use Rattle.link_model.specs.Targets.{is_static, is_settled, is_dynamic, is_absolute, target_of_key}
use Rattle.link_model.specs.parts.Laws.{word_range, need_range}

-- two relocations fill no common byte
abbrev pub RelsApart : Rel → Rel → Type 0
RelsApart r q = RangesApart (site_of_rel r) (site_of_rel q)

pub rels_turned : (r q : Rel) → RelsApart r q → RelsApart q r
rels_turned r q (inl h) = inr h
rels_turned r q (inr h) = inl h

-- a relocation fills bytes of a range, by words of it
pub record LiesIn (range : Site) (r : Rel) : Type 0 where
  pub from : range.addr ≤ r.site
  pub to : r.site + site_size r.kind ≤ range.addr + range.size
  pub multiple : range.addr % 4 ≡ 0 → r.site % 4 ≡ 0

pub of_apart : (a b : Site) (r q : Rel) → RangesApart a b → LiesIn a r → LiesIn b q → RelsApart r q
of_apart a b r q (inl h) one two = inl (omega (arith, h, one.to, two.from))
of_apart a b r q (inr h) one two = inr (omega (arith, h, one.from, two.to))

pub record AreIn (range : Site) (rs : List Rel) : Type 0 where
  pub each : All (LiesIn range) rs
  pub apart : AllPairs RelsApart rs

none_in : (range : Site) → AreIn range []
none_in range = record { each = All-nil (LiesIn range); apart = pairs_of_none RelsApart }

range_at : ℕ → ℕ → Site
range_at site size = record { addr = site; size = size }

one_in : (site kind symbol size : ℕ) → site_size kind ≤ size → AreIn (record { addr = site; size = size }) (dynamic_rel site kind symbol)
one_in site kind symbol size le =
    let range : Site = record { addr = site; size = size } in
    let r : Rel = record { site = site; kind = kind; symbol = symbol } in
    record { each = All-cons (LiesIn range) r [] (record { from = omega arith; to = omega (arith, le); multiple = λ e. e }) (All-nil (LiesIn range)); apart = pairs_of_one RelsApart r }

module _ (mode : Mode) (inputs : List RelObject) where
  address_in : (site kind : ℕ) (t : Target) → site_size kind ≤ 4 → AreIn (record { addr = site; size = 4 }) (address_rels mode inputs site kind t)
  address_in site kind t le = by (is_dynamic t.reach) (is_settled t.reach && not (is_absolute t.spot))
    where
      by : (a b : Bool) → AreIn (record { addr = site; size = 4 }) (cond a (dynamic_rel site kind (symbol_index mode inputs t.key)) (cond b (dynamic_rel site R_ARM_RELATIVE 0) []))
      by true b = one_in site kind (symbol_index mode inputs t.key) 4 le
      by false true = one_in site R_ARM_RELATIVE 0 4 (omega arith)
      by false false = none_in (record { addr = site; size = 4 })

  descriptor_in : (site : ℕ) → AreIn (record { addr = site; size = 8 }) (descriptor_rels mode site)
  descriptor_in site = by (is_static mode)
    where
      range : Site
      range = record { addr = site; size = 8 }

      r : Rel
      r = record { site = site; kind = R_ARM_RELATIVE; symbol = 0 }

      q : Rel
      q = record { site = site + 4; kind = R_ARM_RELATIVE; symbol = 0 }

      fourth : site % 4 ≡ 0 → (site + 4) % 4 ≡ 0
      fourth e = omega (arith, e)

      apart : RelsApart r q
      apart = inl (omega arith)

      by : (b : Bool) → AreIn range (cond b (dynamic_rel site R_ARM_RELATIVE 0 ++ dynamic_rel (site + 4) R_ARM_RELATIVE 0) (dynamic_rel site R_ARM_FUNCDESC_VALUE 0))
      by true = record {
        each = All-cons (LiesIn range) r (q ∷ []) (record { from = omega arith; to = omega arith; multiple = λ e. e })
            (All-cons (LiesIn range) q [] (record { from = omega arith; to = omega arith; multiple = fourth }) (All-nil (LiesIn range)));
        apart = AllPairs-cons RelsApart r (q ∷ []) (All-cons (RelsApart r) q [] apart (All-nil (RelsApart r))) (pairs_of_one RelsApart q);
      }
      by false = one_in site R_ARM_FUNCDESC_VALUE 0 8 (omega arith)

  pub need_in : (n : Need) → AreIn (need_range mode inputs n) (need_rels mode inputs n)
  need_in (Word key) = address_in (need_place mode inputs (Word key)) R_ARM_GLOB_DAT (target_of_key mode inputs key) (omega arith)
  need_in (FuncWord key) = address_in (need_place mode inputs (FuncWord key)) R_ARM_FUNCDESC (target_of_key mode inputs key) (omega arith)
  need_in (Descriptor function) = descriptor_in (need_place mode inputs (Descriptor function))
  need_in (NoFunction key) = none_in (need_range mode inputs (NoFunction key))
  need_in (Slot key) = none_in (need_range mode inputs (Slot key))

  pub site_in : (x : InputRel) → AreIn (word_range mode inputs x) (site_rels mode inputs x)
  unfolding site_rels
  site_in x = by (is_address_kind (x.rel).kind) ((x.rel).kind == R_ARM_FUNCDESC)
    where
      by : (a b : Bool) → AreIn (word_range mode inputs x) (cond a (address_rels mode inputs (site_address mode inputs x) R_ARM_ABS32 (target_at mode inputs x)) (cond b (address_rels mode inputs (site_address mode inputs x) R_ARM_FUNCDESC (target_at mode inputs x)) []))
      by true b = address_in (site_address mode inputs x) R_ARM_ABS32 (target_at mode inputs x) (omega arith)
      by false true = address_in (site_address mode inputs x) R_ARM_FUNCDESC (target_at mode inputs x) (omega arith)
      by false false = none_in (word_range mode inputs x)

  -- the kinds of those that the loader fills
  pub filled_kind : (P : ℕ → Type 0) → P R_ARM_ABS32 → P R_ARM_TARGET1 → P R_ARM_FUNCDESC → (x : InputRel) (r : Rel) → Contains (site_rels mode inputs x) r → P (x.rel).kind
  unfolding site_rels
  filled_kind P abs target descriptor x r there = by (is_address_kind kind) (kind == R_ARM_FUNCDESC) refl refl there
    where
      kind : ℕ
      kind = (x.rel).kind

      by : (a b : Bool) → is_address_kind kind ≡ a → (kind == R_ARM_FUNCDESC) ≡ b
          → Contains (cond a (address_rels mode inputs (site_address mode inputs x) R_ARM_ABS32 (target_at mode inputs x)) (cond b (address_rels mode inputs (site_address mode inputs x) R_ARM_FUNCDESC (target_at mode inputs x)) [])) r
          → P kind
      by true b e f in' = elim (or_cases (R_ARM_ABS32 == kind) ((R_ARM_TARGET1 == kind) || false) e) [
        | inl h ↦ subst P (eqb-true R_ARM_ABS32 kind h) abs
        | inr more ↦ elim (or_cases (R_ARM_TARGET1 == kind) false more) [
          | inl h ↦ subst P (eqb-true R_ARM_TARGET1 kind h) target
          | inr no' ↦ absurd (false≢true no')
        ]
      ]
      by false true e f in' = subst P (sym (eqb-true kind R_ARM_FUNCDESC f)) descriptor
      by false false e f in' = absurd (nothing_in r in')
