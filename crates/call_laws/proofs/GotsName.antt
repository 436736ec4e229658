-- An address of a placed segment names its module, and so does a placed GOT.
use Rattle.std.proofs.Common.{◌≡◌, ◌≢◌, ℕ, ◌+◌, ◌<◌, ◌≤◌, inl, inr, Some, refl, sym, ap, subst, arith}
use Rattle.std.specs.Prelude.{Contains}
use Rattle.std.proofs.lemmas.Bool.{cases_lt}
use Rattle.elf_model.specs.declared.object.Object.{Object}
use Rattle.placement.specs.declared.item.Held.{Held}
use Rattle.load_map.specs.Maps.{map_at}
use Rattle.load_map.specs.Translation.{placed}
use Rattle.load_model.specs.Process.{object_at}
use Rattle.load_state.specs.Consistent.{IsConsistent}
use Rattle.load_state.specs.Loaded.{Loaded}
use Rattle.load_map.specs.Maps.{map_at}
use Rattle.load_laws.proofs.AddressesApart.{apart_two}
use Rattle.call_laws.specs.parts.StandingCalls.{GotsNameModules}
use Rattle.call_laws.proofs.SlotsLead.{got_spanned}
use Rattle.call_laws.proofs.PlacedCode.{LiesIn, lies_there}

module _ (l : Loaded) (h : IsConsistent l) where
  range_of : (m a : ℕ) → LiesIn l m a → Held
  range_of m a lies = record { owner = m; start = lies.entry.addr; len = lies.entry.memsz }

  held_range : (m a : ℕ) (lies : LiesIn l m a) → Contains l.modules.held (range_of m a lies)
  unfolding range_of
  held_range m a lies = (h.ranges.held' (range_of m a lies)).1 (record { entry = lies.entry; listed = lies.listed; start' = refl; len' = refl })

  not_two : (m n a : ℕ) → LiesIn l m a → LiesIn l n a → m ≢ n → ⊥
  unfolding range_of
  not_two m n a here there other =
      let apart =
      apart_two l.modules.held (range_of m a here) (range_of n a there) h.ranges.apart (held_range m a here) (held_range n a there) (λ is. other (ap (λ (r : Held). r.owner) is)) in
      let above : here.entry.addr ≤ a = here.above in
      let below : a < here.entry.addr + here.entry.memsz = here.below in
      let from : there.entry.addr ≤ a = there.above in
      let to : a < there.entry.addr + there.entry.memsz = there.below in
      elim apart [ inl before ↦ absurd (omega arith) | inr after ↦ absurd (omega arith) ]

  -- modules share no placed address
  pub one_owner : (m n a : ℕ) → LiesIn l m a → LiesIn l n a → m ≡ n
  one_owner m n a here there =
      elim (cases_lt m n) [
        | inl less ↦ absurd (not_two m n a here there (λ is. absurd (omega arith)))
        | inr most ↦ elim (cases_lt n m) [
          | inl less ↦ absurd (not_two m n a here there (λ is. absurd (omega arith)))
          | inr least ↦ omega arith
        ]
      ]

  got_lies : (m : ℕ) (o : Object) → object_at l.modules.process m ≡ Some o → LiesIn l m (placed (map_at l.modules.maps m) o.got)
  got_lies m o live =
      let got = got_spanned o (h.modules'.standing m o live).sound in
      let from : got.segment.vaddr ≤ o.got = got.from in
      let to : o.got + 12 ≤ got.segment.vaddr + got.segment.memsz = got.to in
      lies_there l h m got.index o got.segment live got.held o.got from (omega arith)

pub gots_name_modules_lem : GotsNameModules
gots_name_modules_lem l m n o q h live other same =
    one_owner l h m n (placed (map_at l.modules.maps m) o.got) (got_lies l h m o live) (subst (λ (a : ℕ). LiesIn l n a) (sym same) (got_lies l h n q other))
