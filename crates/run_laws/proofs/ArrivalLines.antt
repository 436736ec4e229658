-- A call walks to its arrival: its line is among those of the turns until then.
use Rattle.std.proofs.Common.{◌≡◌, ℕ, suc, ◌+◌, ◌≤◌, Bool, true, false, cond, List, [], ◌∷◌, ◌++◌, Option, Some, None, refl, sym, subst, arith, add-zero}
use Rattle.std.specs.Prelude.{IfSome, nat_le, option_and_then, ◌==◌}
use Rattle.std.specs.Option.{option_map_or}
use Rattle.std.proofs.lemmas.Bool.{eqb-true, eqb-false}
use Rattle.fd_base.proofs.Options.{if_some_both}
use Rattle.elf_model.specs.declared.func.Func.{Func}
use Rattle.a32_machine.specs.declared.cpu.Cpu.{Cpu}
use Rattle.run_model.specs.declared.event.Event.{Event}
use Rattle.run_model.specs.declared.event.Event.TheVariants.{Arrive}
use Rattle.run_model.specs.State.{State}
use Rattle.run_model.specs.Turns.{turn_of}
use Rattle.call_laws.specs.Calls.{BoundCall, Begins}
use Rattle.call_laws.specs.Schedules.{after, events_from, own_turns, turns_from}
use Rattle.call_laws.proofs.Arrivals.{Making, last_by, next_by, other_makes}
use Rattle.call_laws.proofs.ListMembers.{Has, has_left, has_right}
use Rattle.call_laws.proofs.CallWalks.{InCall, own_turn, then_turns, turns_more}
use Rattle.run_laws.proofs.TurnLists.{events_then, turns_then}

-- ---- a call

module _ (limit t : ℕ) (begin : Cpu) (c : BoundCall) (f : Func) (begins : Begins begin c) where
  abbrev Walks : ℕ → State → Type 0
  Walks n s = Making limit t begin c f begins n s

  turn-walks : (s : State) (u n : ℕ) (mine : Bool) → (u == t) ≡ mine → n + cond mine 1 0 ≤ 3 → Walks n s → IfSome (after (turn_of limit s u)) (Walks (cond mine (suc n) n))
  turn-walks s u n true same l h =
      subst (λ (v : ℕ). IfSome (after (turn_of limit s v)) (Walks (suc n))) (sym (eqb-true u t same)) (next_by limit t begin c f begins s n (nat_le limit s.steps) refl (omega arith) h)
  turn-walks s u n false other l h = other_makes limit t begin c f begins s u n (λ same. eqb-false u t other (sym same)) h

  room : (n rest : ℕ) (mine : Bool) → n + cond mine (suc rest) rest ≤ 3 → n + cond mine 1 0 ≤ 3
  room n rest true l = omega arith
  room n rest false l = omega arith

  walks : (turns : List ℕ) (s : State) (n : ℕ) → n + own_turns t turns ≤ 3 → Walks n s → IfSome (turns_from limit turns s) (Walks (n + own_turns t turns))
  walks [] s n l h = subst (λ (k : ℕ). Walks k s) (sym (add-zero n)) h
  walks (u ∷ us) s n l h =
      let mine : Bool = u == t in
      let rest : ℕ = own_turns t us in
      let more : cond mine (suc n) n + rest ≡ n + cond mine (suc rest) rest = turns_more n rest mine in
      then_turns (Walks (cond mine (suc n) n)) (Walks (n + cond mine (suc rest) rest)) (turns_from limit us) (after (turn_of limit s u))
      (turn-walks s u n mine refl (room n rest mine l) h)
      (λ later k. subst (λ (j : ℕ). IfSome (turns_from limit us later) (Walks j)) more (walks us later (cond mine (suc n) n) (rw more l) k))

  -- the thread is at the function, and the line is there
  abbrev pub Arrives : List Event → State → Type 0
  Arrives events later = InCall begin c t 4 later × Has events (Arrive later.steps t f)

  last : (mid : State) → Walks 3 mid → IfSome (after (turn_of limit mid t)) (Arrives (turn_of limit mid t).events)
  last mid h =
      if_some_both (InCall begin c t 4) (λ later. Has (turn_of limit mid t).events (Arrive later.steps t f)) (after (turn_of limit mid t)) (own_turn limit mid t 3 begin c begins h.at (omega arith))
      (last_by limit t begin c f begins mid (nat_le limit mid.steps) refl h)

  -- one turn, and what comes before it
  then_last : (first events : List Event) (o : Option State) → IfSome o (Arrives events)
      → IfSome (option_and_then (turns_from limit []) o) (Arrives (first ++ (events ++ option_map_or (events_from limit []) o [])))
  then_last first events None h = tt
  then_last first events (Some later) h = (h.0, has_right first (events ++ []) _ (has_left events [] _ h.1))

  at_last : (first : List Event) (o : Option State) → IfSome o (Walks 3)
      → IfSome (option_and_then (turns_from limit (t ∷ [])) o) (Arrives (first ++ option_map_or (events_from limit (t ∷ [])) o []))
  at_last first None h = tt
  at_last first (Some mid) h = then_last first (turn_of limit mid t).events (after (turn_of limit mid t)) (last mid h)

  pub arrives : (turns : List ℕ) (s : State) → own_turns t turns ≡ 3 → Walks 0 s
      → IfSome (turns_from limit (turns ++ t ∷ []) s) (Arrives (events_from limit (turns ++ t ∷ []) s))
  arrives turns s three h =
      let all : 0 + own_turns t turns ≡ 3 = omega arith in
      let walked : IfSome (turns_from limit turns s) (Walks 3) =
      subst (λ (n : ℕ). IfSome (turns_from limit turns s) (Walks n)) all (walks turns s 0 (omega arith) h) in
      let P : List Event → Type 0 = λ events. IfSome (turns_from limit (turns ++ t ∷ []) s) (Arrives events) in
      let Q : Option State → Type 0 = λ o. IfSome o (Arrives (events_from limit turns s ++ option_map_or (events_from limit (t ∷ [])) (turns_from limit turns s) [])) in
      subst P (sym (events_then limit turns (t ∷ []) s)) (subst Q (sym (turns_then limit turns (t ∷ []) s)) (at_last (events_from limit turns s) (turns_from limit turns s) walked))
