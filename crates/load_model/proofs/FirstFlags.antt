-- The flags of new modules.
use Rattle.std.proofs.Common.{◌≡◌, ◌≢◌, ℕ, inl, inr, Bool, true, false, not, ◌&&◌, length, None, refl, sym, ap, ◌∙◌, arith}
use Rattle.std.specs.Prelude.{is_some}
use Rattle.std.proofs.lemmas.Bool.{false≢true, and_parts, cases_lt}
use Rattle.std.proofs.lemmas.List.FromFn.{get_or-map-range_with_len, length-map-range_with_len}
use Rattle.std.proofs.lemmas.List.{get_or_past}
use Rattle.elf_model.specs.declared.object.Object.{Object}
use Rattle.plt_code.specs.Entries.{lazy_place}
use Rattle.load_model.specs.Unbound.{is_set, may_wait, unbound_at_first}

-- each slot has one
pub flags_count : (lazy : Bool) (o : Object) → length (unbound_at_first lazy o) ≡ length o.jmprels
flags_count lazy o = length-map-range_with_len (λ k. lazy && may_wait o k) 0 (length o.jmprels)

-- a flag is set where the slot may wait
set_waits : (lazy : Bool) (o : Object) (k : ℕ) → is_set (unbound_at_first lazy o) k ≡ true → (lazy && may_wait o k) ≡ true
set_waits lazy o k set = elim (cases_lt k (length o.jmprels)) [
  | inl lt ↦ sym (get_or-map-range_with_len (λ n. lazy && may_wait o n) 0 (length o.jmprels) k k false lt (omega arith)) ∙ set
  | inr past ↦
      let none : is_set (unbound_at_first lazy o) k ≡ false = get_or_past (unbound_at_first lazy o) k false (omega (arith, flags_count lazy o, past)) in
      absurd (false≢true (sym none ∙ set))
]

-- and so it has its call of the resolver
pub set_has_call : (lazy : Bool) (o : Object) (k : ℕ) → is_set (unbound_at_first lazy o) k ≡ true → lazy_place o k ≢ None
set_has_call lazy o k set none =
    let waits = and_parts lazy (may_wait o k) (set_waits lazy o k set) in
    let there = and_parts (not o.now) (is_some (lazy_place o k)) waits.1 in
    false≢true (sym (ap is_some none) ∙ there.1)

-- without lazy no slot waits
pub eager_flags : (o : Object) (k : ℕ) → is_set (unbound_at_first false o) k ≡ false
eager_flags o k = either (is_set (unbound_at_first false o) k) refl
  where
    either : (b : Bool) → is_set (unbound_at_first false o) k ≡ b → is_set (unbound_at_first false o) k ≡ false
    either true is = absurd (false≢true (and_parts false (may_wait o k) (set_waits false o k is)).0)
    either false is = is
