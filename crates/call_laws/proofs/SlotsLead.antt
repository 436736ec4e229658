-- Where the slots of live modules lead.
use Rattle.std.proofs.Common.{◌≡◌, ℕ, ◌+◌, ◌%◌, ◌^◌, ◌<◌, ◌≤◌, true, false, ◌&&◌, ◌==◌, List, [], Option, Some, None, Result, Ok, Err, refl, ap, subst, ◌∙◌, arith}
use Rattle.std.specs.Prelude.{Contains, option_map, slice_get}
use Rattle.std.specs.Option.{option_map_or}
use Rattle.std.specs.Result.{result_err}
use Rattle.std.proofs.lemmas.Bool.{and_parts, eqb-true}
use Rattle.std.proofs.lemmas.Bool.Decides.{nat_tests}
use Rattle.std.proofs.lemmas.List.Elements.{All-head}
use Rattle.fd_base.proofs.Finding.{any_at}
use Rattle.elf_model.specs.declared.constants.TheConstants.{PF_W, PF_X, R_ARM_FUNCDESC_VALUE}
use Rattle.elf_model.specs.declared.func.Func.{Func}
use Rattle.elf_model.specs.declared.object.Object.{Object}
use Rattle.elf_model.specs.declared.object.Rel.{Rel}
use Rattle.elf_model.specs.declared.object.Segment.{Segment}
use Rattle.elf_model.specs.Places.{is_executable_in, is_held_in, is_writable_in, spans}
use Rattle.elf_model.specs.Relocations.{got_header}
use Rattle.elf_model.specs.Segments.{has_flag}
use Rattle.elf_model.specs.Sound.{IsSound, IsInPlace}
use Rattle.fd_base.proofs.Finding.{any_at}
use Rattle.load_model.specs.declared.error.LoadRefusal.{LoadRefusal}
use Rattle.load_model.specs.declared.meaning.SiteValue.TheVariants.{Pair}
use Rattle.load_model.specs.Definition.{Linkage}
use Rattle.load_model.specs.Image.{place_of, got_of}
use Rattle.load_map.specs.Maps.{map_at}
use Rattle.load_map.specs.Translation.{placed}
use Rattle.load_model.specs.Linkage.{linkage_of}
use Rattle.load_model.specs.Process.{object_at}
use Rattle.load_model.specs.Sites.{function_at, is_code, refusals_of, site_value, written}
use Rattle.elf_model.specs.Filled.{site_relocations}
use Rattle.load_state.specs.Consistent.{IsConsistent}
use Rattle.load_state.specs.Loaded.{Loaded, placing_of}
use Rattle.load_map.specs.Maps.{map_at}
use Rattle.fd_base.proofs.Members.{filter_map_in, nothing_in}
use Rattle.load_laws.proofs.OwnDescriptors.{code_at}
use Rattle.load_laws.proofs.SlotFunctions.{pair_value}
use Rattle.call_laws.proofs.PlacedCode.{aligned_there, ends_there}

-- ---- the value of a slot

answered : {X : Type 0} (x : Result X LoadRefusal) → ((e : LoadRefusal) → x ≡ Err e → ⊥) → (y : X) × (x ≡ Ok y)
answered (Ok y) never = (y, refl)
answered (Err e) never = absurd (never e refl)

-- where no site is refused
pub slot_leads : (k : Linkage) (m : ℕ) (o : Object) (r : Rel) → r.kind ≡ R_ARM_FUNCDESC_VALUE → Contains (site_relocations o) r → refusals_of k m o ≡ []
    → (f : Option Func) × (function_at k m o r ≡ Ok f) × (site_value k m o r ≡ Ok (Pair f))
slot_leads k m o r kind there none =
    let value = pair_value k m o r kind in
    let f = answered (function_at k m o r) (λ e is.
    let refused : result_err (site_value k m o r) ≡ Some e = ap result_err (value ∙ ap (written Pair) is) in
    nothing_in e (subst (λ (es : List LoadRefusal). Contains es e) none (filter_map_in (λ (q : Rel). result_err (site_value k m o q)) (site_relocations o) r e there refused))) in
    (f.0, f.1, value ∙ ap (written Pair) f.1)

-- ---- functions

-- a segment that holds n bytes at a link address
pub record IsSpanned (o : Object) (v n : ℕ) : Type 0 where
  pub index : ℕ
  pub segment : Segment
  pub held : slice_get o.segments index ≡ Some segment
  pub from : segment.vaddr ≤ v
  pub to : v + n ≤ segment.vaddr + segment.memsz

pub spans_means : (s : Segment) (v n : ℕ) → spans s v n ≡ true → (s.vaddr ≤ v) × (v + n ≤ s.vaddr + s.memsz)
spans_means s v n h = grind (arith, nat_tests)

pub held_means : (s : Segment) (v : ℕ) → is_held_in s v ≡ true → (s.vaddr ≤ v) × (v + 1 ≤ s.vaddr + s.memsz)
held_means s v h = grind (arith, nat_tests)

executable_there : (o : Object) (v : ℕ) → is_executable_in o.segments v ≡ true → IsSpanned o v 1
executable_there o v is =
    let one = any_at (λ s. has_flag s.flags PF_X && is_held_in s v) o.segments is in
    let range = held_means one.1 v (and_parts (has_flag (one.1).flags PF_X) (is_held_in one.1 v) one.2.1).1 in
    record { index = one.0; segment = one.1; held = one.2.0; from = range.0; to = range.1 }

writable_there : (o : Object) (v n : ℕ) → is_writable_in o.segments v n ≡ true → IsSpanned o v n
writable_there o v n is =
    let one = any_at (λ s. has_flag s.flags PF_W && spans s v n) o.segments is in
    let range = spans_means one.1 v n (and_parts (has_flag (one.1).flags PF_W) (spans one.1 v n) one.2.1).1 in
    record { index = one.0; segment = one.1; held = one.2.0; from = range.0; to = range.1 }

pub got_spanned : (o : Object) → IsSound o → IsSpanned o o.got 12
got_spanned o sound = writable_there o o.got 12 (All-head (IsInPlace o.segments) (got_header o.got) _ sound.in_place).writable

-- both words of a slot fit, and the first is the address of an instruction, or 0
pub record IsTarget (l : Loaded) (f : Option Func) : Type 0 where
  pub code_below : option_map_or (place_of (placing_of l.modules.process l.modules.maps l.modules.addrs)) f 0 < 2 ^ 32
  pub code_aligned : option_map_or (place_of (placing_of l.modules.process l.modules.maps l.modules.addrs)) f 0 % 4 ≡ 0
  pub got_below : option_map_or (λ (g : Func). got_of (placing_of l.modules.process l.modules.maps l.modules.addrs) g.module) f 0 < 2 ^ 32

pub in_object : (x : Option Object) (v : ℕ) → option_map_or (λ (o : Object). is_executable_in o.segments v) x false ≡ true
    → (o : Object) × (x ≡ Some o) × (is_executable_in o.segments v ≡ true)
in_object None v is = cc
in_object (Some o) v is = (o, refl, is)

module _ (l : Loaded) (h : IsConsistent l) (small : l.modules.plan.memory < 2 ^ 32) where
  pub code_target : (f : Func) → is_code (linkage_of l.modules.process) f ≡ true → IsTarget l (Some f)
  code_target f is =
      let parts = and_parts (f.value % 4 == 0) (option_map_or (λ (o : Object). is_executable_in o.segments f.value) (object_at l.modules.process f.module) false) is in
      let x = in_object (object_at l.modules.process f.module) f.value parts.1 in
      let o = x.0 in
      let live : object_at l.modules.process f.module ≡ Some o = x.1 in
      let at = executable_there o f.value x.2 in
      let got = got_spanned o (h.modules'.standing f.module o live).sound in
      let from : at.segment.vaddr ≤ f.value = at.from in
      let to : f.value + 1 ≤ at.segment.vaddr + at.segment.memsz = at.to in
      let got_from : got.segment.vaddr ≤ o.got = got.from in
      let got_to : o.got + 12 ≤ got.segment.vaddr + got.segment.memsz = got.to in
      let ends : placed (map_at l.modules.maps f.module) f.value + 1 < 2 ^ 32 =
      ends_there l h f.module at.index o at.segment live at.held f.value 1 from (omega arith) to small in
      let got_ends : placed (map_at l.modules.maps f.module) o.got + 12 < 2 ^ 32 =
      ends_there l h f.module got.index o got.segment live got.held o.got 12 got_from (omega arith) got_to small in
      let got_is : got_of (placing_of l.modules.process l.modules.maps l.modules.addrs) f.module ≡ placed (map_at l.modules.maps f.module) o.got =
      ap (λ (y : Option Object). option_map_or (placed (map_at l.modules.maps f.module)) (option_map (λ (z : Object). z.got) y) 0) live in
      record {
        code_below = omega arith;
        code_aligned = aligned_there l h f.module at.index o at.segment live at.held f.value from (omega arith) (eqb-true (f.value % 4) 0 parts.0);
        got_below = omega arith;
      }

  pub target : (m : ℕ) (o : Object) (r : Rel) (f : Option Func) → function_at (linkage_of l.modules.process) m o r ≡ Ok f → IsTarget l f
  target m o r None is = record { code_below = omega arith; code_aligned = refl; got_below = omega arith }
  target m o r (Some f) is = code_target f (code_at (linkage_of l.modules.process) m o r f is)
