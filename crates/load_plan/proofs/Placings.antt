-- Where modules are placed, by tables and by definition.
use Rattle.std.proofs.Common.{◌≡◌, ℕ, ◌<◌, ◌≤◌, inl, inr, Bool, List, [], ◌∷◌, length, get_or, map, Option, Some, None, refl, sym, ap, subst, ◌∙◌, arith, All}
use Rattle.std.specs.Prelude.{slice_get, option_map, option_and_then, ◌==◌}
use Rattle.std.specs.FinMap.{get}
use Rattle.std.specs.List.{AllZip, range_with_len}
use Rattle.std.proofs.Math.Path.{fun_ext}
use Rattle.std.proofs.lemmas.Bool.{cases_lt, cases_Bool, eqb-true}
use Rattle.std.proofs.lemmas.List.Elements.{All-head, All-tail}
use Rattle.std.proofs.lemmas.List.FromFn.{get_or-map-range_with_len, length-map-range_with_len}
use Rattle.std.proofs.lemmas.Option.{slice_get-get_or, slice_get_past}
use Rattle.load_map.specs.declared.entry.MapEntry.{MapEntry}
use Rattle.elf_model.specs.declared.func.Func.{Func}
use Rattle.load_model.specs.declared.module.Joining.{Joining}
use Rattle.load_model.specs.declared.module.Live.{Live}
use Rattle.load_model.specs.declared.module.SymbolicProcess.{SymbolicProcess}
use Rattle.load_model.specs.Definition.{Linkage}
use Rattle.load_model.specs.Descriptors.{descriptors_after}
use Rattle.load_model.specs.Image.{load_map_at, Placing}
use Rattle.load_map.specs.Maps.{map_at}
use Rattle.load_model.specs.Linkage.{joining_at}
use Rattle.load_model.specs.Process.{object_at}
use Rattle.load_image.specs.Places.{PlaceTables, placing_in, got_in}
use Rattle.load_map.specs.Maps.{map_at}
use Rattle.load_plan.specs.parts.FinishedBytes.{AreImages}
use Rattle.load_state.specs.Accepted.{AreFinished, gots_of, placing_by}

-- ---- the GOTs

none_joins : (joining : List Joining) (m : ℕ) → All (λ j. j.number < 64) joining → 64 ≤ m → joining_at joining m ≡ None
none_joins [] m small past = refl
none_joins (j ∷ joining) m small past =
    let lt : j.number < 64 = All-head (λ (i : Joining). i.number < 64) j joining small in
    let rest = none_joins joining m (All-tail (λ (i : Joining). i.number < 64) j joining small) past in
    elim (cases_Bool (j.number == m)) [
      | inl is ↦ let same : j.number ≡ m = eqb-true j.number m is in absurd (omega (arith, lt, past, same))
      | inr other ↦ rw other rest
    ]

dead_past : (p : SymbolicProcess) (m : ℕ) → length p.modules ≡ 64 → 64 ≤ m → object_at p m ≡ None
dead_past p m size past =
    let none : slice_get p.modules m ≡ None = slice_get_past p.modules m (omega (arith, size, past)) in
    ap (λ (place : Option (Option Live)). option_map (λ (live : Live). live.object) (option_and_then (λ x. x) place)) none

no_got_past : (p : SymbolicProcess) (joining : List Joining) (m : ℕ) → length p.modules ≡ 64 → All (λ j. j.number < 64) joining → 64 ≤ m → gots_of p joining m ≡ None
no_got_past p joining m size small past =
    rw (none_joins joining m small past, dead_past p m size past) refl

pub same_got_at : (p : SymbolicProcess) (joining : List Joining) → length p.modules ≡ 64 → All (λ j. j.number < 64) joining
    → got_in (map (gots_of p joining) (range_with_len 0 64)) ≡ gots_of p joining
same_got_at p joining size small = fun_ext each
  where
    table : List (Option ℕ)
    table = map (gots_of p joining) (range_with_len 0 64)

    len : length table ≡ 64
    len = length-map-range_with_len (gots_of p joining) 0 64

    each : (m : ℕ) → got_in table m ≡ gots_of p joining m
    each m =
        elim (cases_lt m 64) [
          | inl lt ↦
              let at : slice_get table m ≡ Some (get_or table m None) = slice_get-get_or table m None (omega (arith, len, lt)) in
              let is : get_or table m None ≡ gots_of p joining m = get_or-map-range_with_len (gots_of p joining) 0 64 m m None lt (omega arith) in
              ap (option_and_then (λ place. place)) at ∙ is
          | inr past ↦
              let at : slice_get table m ≡ None = slice_get_past table m (omega (arith, len, past)) in
              ap (option_and_then (λ place. place)) at ∙ sym (no_got_past p joining m size small past)
        ]

-- ---- all of it

abbrev placing_from : (ℕ → List MapEntry) → (ℕ → Option ℕ) → (Func → Option ℕ) → Placing
placing_from maps gots descriptors = record { maps = maps; gots = gots; load_maps = load_map_at; descriptors = descriptors }

pub same_placing : (p : SymbolicProcess) (joining : List Joining) (t : PlaceTables) → length p.modules ≡ 64 → All (λ j. j.number < 64) joining
    → t.gots ≡ map (gots_of p joining) (range_with_len 0 64) → placing_in t ≡ placing_by p t.descriptors.had joining t.maps t.descriptors.privates t.descriptors.given
same_placing p joining t size small gots =
    let addr = descriptors_after (get t.descriptors.had) t.descriptors.privates t.descriptors.given in
    ap (λ got. placing_from (map_at t.maps) got addr) (ap got_in gots ∙ same_got_at p joining size small)

-- the parts of new modules, by tables and by definition
pub finished_by : (l : Linkage) (p : SymbolicProcess) (lazy : Bool) (joining : List Joining) (t : PlaceTables) (parts : List (List (List ℕ))) → length p.modules ≡ 64 → All (λ j. j.number < 64) joining
    → t.gots ≡ map (gots_of p joining) (range_with_len 0 64) → AllZip (AreImages l (placing_in t) lazy (map_at t.maps)) joining parts
    → AreFinished l (placing_by p t.descriptors.had joining t.maps t.descriptors.privates t.descriptors.given) lazy joining t.maps parts
finished_by l p lazy joining t parts size small gots made =
    subst (λ (placing : Placing). AllZip (AreImages l placing lazy (map_at t.maps)) joining parts) (same_placing p joining t size small gots) made
