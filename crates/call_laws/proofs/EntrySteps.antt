-- The four instructions of an entry, each over whatever memory holds its words.
use Rattle.std.proofs.Common.{◌≡◌, ℕ, ◌+◌, ◌%◌, ◌^◌, ◌<◌, false, List, [], ◌∷◌, Ok, length, get_or, set, refl, ap, ◌∙◌, arith}
use Rattle.guest_mem.specs.Memory.{GuestMemory}
use Rattle.guest_mem.specs.Accesses.{fetch_of, read32_of}
use Rattle.a32_isa.specs.declared.instr.Op.TheVariants.{Data}
use Rattle.a32_isa.specs.declared.instr.Arg.TheVariants.{ByImm}
use Rattle.a32_machine.specs.declared.cpu.Cpu.{Cpu}
use Rattle.fd_base.specs.Sums.{plus}
use Rattle.a32_machine.specs.DataProcessing.{data_processed}
use Rattle.a32_machine.specs.Registers.{moved_on, pc_of}
use Rattle.a32_machine.specs.Step.{execute, step_of}
use Rattle.a32_machine.specs.Stepped.{went_on}
use Rattle.a32_machine.proofs.Arrivals.{by_sixteen, entry_0, entry_1, entry_2, entry_3, landed_at, stepped, word_loaded}
use Rattle.call_laws.specs.Calls.{standing}

-- the registers that no step of a call changes
record Others : Type 0 where
  r0 : ℕ
  r1 : ℕ
  r2 : ℕ
  r3 : ℕ
  r4 : ℕ
  r5 : ℕ
  r6 : ℕ
  r7 : ℕ
  r8 : ℕ
  r10 : ℕ
  r11 : ℕ
  r13 : ℕ
  r14 : ℕ

abbrev cpu_with : Cpu → Others → ℕ → ℕ → ℕ → Cpu
cpu_with b o pc r12 r9 = record b { r = o.r0 ∷ o.r1 ∷ o.r2 ∷ o.r3 ∷ o.r4 ∷ o.r5 ∷ o.r6 ∷ o.r7 ∷ o.r8 ∷ r9 ∷ o.r10 ∷ o.r11 ∷ r12 ∷ o.r13 ∷ o.r14 ∷ pc ∷ [] }

-- what a step does whatever the other registers are, it does
by_registers : (b : Cpu) (m : GuestMemory) (pc r12 r9 pc' r12' r9' : ℕ)
    → ((o : Others) → step_of (cpu_with b o pc r12 r9) m ≡ went_on (cpu_with b o pc' r12' r9') m)
    → length b.r ≡ 16 → step_of (standing b pc r12 r9) m ≡ went_on (standing b pc' r12' r9') m
by_registers b m pc r12 r9 pc' r12' r9' f h =
    let P : List ℕ → Type 0 = λ r. step_of (record b { r = set (set (set r 12 r12) 9 r9) 15 pc }) m ≡ went_on (record b { r = set (set (set r 12 r12') 9 r9') 15 pc' }) m in
    by_sixteen P (λ r0 r1 r2 r3 r4 r5 r6 r7 r8 r9 r10 r11 r12 r13 r14 r15.
    f (record { r0 = r0; r1 = r1; r2 = r2; r3 = r3; r4 = r4; r5 = r5; r6 = r6; r7 = r7; r8 = r8; r10 = r10; r11 = r11; r13 = r13; r14 = r14 })) b.r h

module _ (b : Cpu) (m : GuestMemory) (sixteen : length b.r ≡ 16) where
  -- ldr r12, [pc, #8]
  pub offset_step : (p x g v : ℕ) → p + 20 < 2 ^ 32 → fetch_of m p ≡ Ok 0xe59fc008 → read32_of m (p + 16) ≡ Ok v
      → step_of (standing b p x g) m ≡ went_on (standing b (p + 4) v g) m
  offset_step p x g v l f r =
      let at_16 : plus (plus p 8) 8 ≡ p + 16 = omega arith in
      let next : plus p 4 ≡ p + 4 = omega arith in
      by_registers b m p x g (p + 4) v g (λ o.
      word_loaded (cpu_with b o p x g) m 0xe59fc008 15 12 8 v f entry_0 (ap (read32_of m) at_16 ∙ r)
      ∙ ap (λ pc. went_on (cpu_with b o pc v g) m) next) sixteen

  -- add r12, r12, r9
  pub slot_step : (p v g : ℕ) → p + 20 < 2 ^ 32 → fetch_of m (p + 4) ≡ Ok 0xe08cc009
      → step_of (standing b (p + 4) v g) m ≡ went_on (standing b (p + 8) (plus g v) g) m
  unfolding execute data_processed
  slot_step p v g l f =
      let there : (v + g + 0) % 2 ^ 32 ≡ plus g v = omega arith in
      let next : plus (p + 4) 4 ≡ p + 8 = omega arith in
      by_registers b m (p + 4) v g (p + 8) (plus g v) g (λ o.
      stepped (cpu_with b o (p + 4) v g) m 0xe08cc009 (Data 4 false 12 12 (ByImm 0 0 9)) f entry_1
      ∙ ap (λ x. went_on (cpu_with b o (plus (p + 4) 4) x g) m) there
      ∙ ap (λ pc. went_on (cpu_with b o pc (plus g v) g) m) next) sixteen

  -- ldr r9, [r12, #4]
  pub got_step : (p x g h : ℕ) → p + 20 < 2 ^ 32 → fetch_of m (p + 8) ≡ Ok 0xe59c9004 → read32_of m (plus x 4) ≡ Ok h
      → step_of (standing b (p + 8) x g) m ≡ went_on (standing b (p + 12) x h) m
  got_step p x g h l f r =
      let next : plus (p + 8) 4 ≡ p + 12 = omega arith in
      by_registers b m (p + 8) x g (p + 12) x h (λ o.
      word_loaded (cpu_with b o (p + 8) x g) m 0xe59c9004 12 9 4 h f entry_2 r
      ∙ ap (λ pc. went_on (cpu_with b o pc x h) m) next) sixteen

  -- ldr pc, [r12]
  pub function_step : (p g v h e : ℕ) → fetch_of m (p + 12) ≡ Ok 0xe59cf000 → read32_of m (plus g v) ≡ Ok e → e % 4 ≡ 0
      → step_of (standing b (p + 12) (plus g v) h) m ≡ went_on (standing b e (plus g v) h) m
  function_step p g v h e f r aligned =
      let at_0 : plus (plus g v) 0 ≡ plus g v = omega arith in
      by_registers b m (p + 12) (plus g v) h e (plus g v) h (λ o.
      word_loaded (cpu_with b o (p + 12) (plus g v) h) m 0xe59cf000 12 15 0 e f entry_3 (ap (read32_of m) at_0 ∙ r)
      ∙ landed_at (cpu_with b o (p + 12) (plus g v) h) (moved_on (cpu_with b o (p + 12) (plus g v) h)) m e aligned) sixteen

  -- where a call begins
  pub standing-begin : (p g : ℕ) → pc_of b ≡ p → get_or b.r 9 0 ≡ g → b ≡ standing b p (get_or b.r 12 0) g
  standing-begin p g at_p at_g =
      let P : List ℕ → Type 0 = λ r. get_or r 15 0 ≡ p → get_or r 9 0 ≡ g → ◌≡◌ {A = Cpu} (record b { r = r }) (record b { r = set (set (set r 12 (get_or r 12 0)) 9 g) 15 p }) in
      by_sixteen P (λ r0 r1 r2 r3 r4 r5 r6 r7 r8 r9 r10 r11 r12 r13 r14 r15 e f. rw (e, f) refl) b.r sixteen at_p at_g

  pub standing-pc : (pc r12 r9 : ℕ) → pc_of (standing b pc r12 r9) ≡ pc
  standing-pc pc r12 r9 =
      by_sixteen (λ (r : List ℕ). get_or (set (set (set r 12 r12) 9 r9) 15 pc) 15 0 ≡ pc) (λ r0 r1 r2 r3 r4 r5 r6 r7 r8 r9' r10 r11 r12' r13 r14 r15. refl) b.r sixteen
