-- The words of the procedure linkage table, one step after another. Memory is opaque here: all that is said of it are
-- equations on what is fetched, read and written.
use Rattle.std.proofs.Common.{◌≡◌, ℕ, suc, ◌+◌, ◌-◌, ◌%◌, ◌^◌, ◌<◌, ◌≤◌, Bool, true, false, List, [], ◌∷◌, Some, Ok, length, get_or, refl, ap, ◌∙◌, arith, add_assoc, eq-eqb}
use Rattle.std.specs.Prelude.{set, if◌then◌else◌}
use Rattle.std.proofs.Math.Nat.{mod-eq_of_lt}
use Rattle.guest_mem.specs.Memory.{GuestMemory, is_watched}
use Rattle.guest_mem.specs.Accesses.{fetch_of, read32_of, write32_of}
use Rattle.guest_mem.specs.parts.Kept.{Keeps}
use Rattle.guest_mem.proofs.Keeping.{fetch_of-kept, read_of-kept}
use Rattle.guest_mem.proofs.Writing.{write_of-keeps}
use Rattle.byteorder.specs.Endian.{little_bytes}
use Rattle.a32_isa.specs.Decoding.{decode_of, candidate_of, register_class_of}
use Rattle.a32_isa.specs.declared.instr.Op.{Op}
use Rattle.a32_isa.specs.declared.instr.Op.TheVariants.{Data, Mem, Multi, Svc}
use Rattle.a32_isa.specs.declared.instr.Arg.TheVariants.{ByImm}
use Rattle.a32_isa.specs.declared.instr.MemOff.TheVariants as mem
use Rattle.a32_machine.specs.declared.cpu.Cpu.{Cpu}
use Rattle.a32_machine.specs.declared.cpu.StepStop.TheVariants.{Unaligned}
use Rattle.a32_machine.specs.declared.transfer.Size.TheVariants.{Word}
use Rattle.fd_base.specs.Sums.{plus, minus}
use Rattle.a32_machine.specs.Registers.{moved_on, pc_of, reg, with_reg}
use Rattle.a32_machine.specs.Stepped.{landed, stopped, went_on}
use Rattle.a32_machine.specs.DataProcessing.{data_processed}
use Rattle.a32_machine.specs.Transfers.{extended, loaded, stored, transferred}
use Rattle.a32_machine.specs.Multiple.{registers_of, transferred_all}
use Rattle.a32_machine.specs.Step.{execute, fetched, obeyed, step_of}
use Rattle.a32_machine.specs.parts.Entries.{AtEntry, AtLazyPlace, steps_from}

-- ---- the words, decoded

pub entry_0 : decode_of 0xe59fc008 ≡ Some (record { cond = 14; op = Mem true false true true false 15 12 (mem.Imm 8) })
unfolding decode_of candidate_of
entry_0 = refl

pub entry_1 : decode_of 0xe08cc009 ≡ Some (record { cond = 14; op = Data 4 false 12 12 (ByImm 0 0 9) })
unfolding decode_of candidate_of register_class_of
entry_1 = refl

pub entry_2 : decode_of 0xe59c9004 ≡ Some (record { cond = 14; op = Mem true false true true false 12 9 (mem.Imm 4) })
unfolding decode_of candidate_of
entry_2 = refl

pub entry_3 : decode_of 0xe59cf000 ≡ Some (record { cond = 14; op = Mem true false true true false 12 15 (mem.Imm 0) })
unfolding decode_of candidate_of
entry_3 = refl

pub lazy_0 : decode_of 0xe51fc00c ≡ Some (record { cond = 14; op = Mem true false true false false 15 12 (mem.Imm 12) })
unfolding decode_of candidate_of
lazy_0 = refl

pub lazy_1 : decode_of 0xe92d1000 ≡ Some (record { cond = 14; op = Multi false true false true 13 4096 })
unfolding decode_of candidate_of
lazy_1 = refl

pub lazy_2 : decode_of 0xe599c004 ≡ Some (record { cond = 14; op = Mem true false true true false 9 12 (mem.Imm 4) })
unfolding decode_of candidate_of
lazy_2 = refl

pub lazy_3 : decode_of 0xe599f000 ≡ Some (record { cond = 14; op = Mem true false true true false 9 15 (mem.Imm 0) })
unfolding decode_of candidate_of
lazy_3 = refl

pub service_240 : decode_of 0xef0000f0 ≡ Some (record { cond = 14; op = Svc 240 })
unfolding decode_of candidate_of
service_240 = refl

pub only_r12 : registers_of 4096 ≡ 12 ∷ []
unfolding registers_of
only_r12 = refl

-- ---- one step for each shape of instruction

-- at a word whose instruction is known
pub stepped : (cpu : Cpu) (m : GuestMemory) (w : ℕ) (op : Op) → fetch_of m (pc_of cpu) ≡ Ok w → decode_of w ≡ Some (record { cond = 14; op = op }) → step_of cpu m ≡ execute op cpu m
unfolding step_of
stepped cpu m w op f d = ap (fetched cpu m) f ∙ ap (obeyed cpu m w) d

-- a word is loaded from above a register, or from below it, into another
pub word_loaded : (cpu : Cpu) (m : GuestMemory) (w n d off v : ℕ) → fetch_of m (pc_of cpu) ≡ Ok w → decode_of w ≡ Some (record { cond = 14; op = Mem true false true true false n d (mem.Imm off) })
    → read32_of m (plus (reg cpu n) off) ≡ Ok v → step_of cpu m ≡ landed cpu (moved_on cpu) m d v
unfolding execute transferred
word_loaded cpu m w n d off v f c r = stepped cpu m w (Mem true false true true false n d (mem.Imm off)) f c ∙ ap (λ x. loaded cpu (moved_on cpu) m d (extended false Word x)) r

pub word_loaded_below : (cpu : Cpu) (m : GuestMemory) (w n d off v : ℕ) → fetch_of m (pc_of cpu) ≡ Ok w → decode_of w ≡ Some (record { cond = 14; op = Mem true false true false false n d (mem.Imm off) })
    → read32_of m (minus (reg cpu n) off) ≡ Ok v → step_of cpu m ≡ landed cpu (moved_on cpu) m d v
unfolding execute transferred
word_loaded_below cpu m w n d off v f c r = stepped cpu m w (Mem true false true false false n d (mem.Imm off)) f c ∙ ap (λ x. loaded cpu (moved_on cpu) m d (extended false Word x)) r

-- a register is pushed
pub register_pushed : (cpu : Cpu) (m pushed : GuestMemory) (w list k : ℕ) → fetch_of m (pc_of cpu) ≡ Ok w → decode_of w ≡ Some (record { cond = 14; op = Multi false true false true 13 list })
    → registers_of list ≡ k ∷ [] → write32_of m (minus (reg cpu 13) 4) (reg cpu k) ≡ Ok pushed → step_of cpu m ≡ went_on (with_reg (moved_on cpu) 13 (minus (reg cpu 13) 4)) pushed
unfolding execute transferred_all
register_pushed cpu m pushed w list k f c l p =
    stepped cpu m w (Multi false true false true 13 list) f c ∙ ap (λ registers. transferred_all false true false true 13 registers cpu m) l
    ∙ ap (stored cpu (with_reg (moved_on cpu) 13 (minus (reg cpu 13) 4)) m) p

-- the address of an instruction goes to r15
pub landed_at : (before cpu : Cpu) (m : GuestMemory) (e : ℕ) → e % 4 ≡ 0 → landed before cpu m 15 e ≡ went_on (with_reg cpu 15 e) m
landed_at before cpu m e h = ap (λ b. if b then went_on (with_reg cpu 15 e) m else stopped before m (Unaligned e)) (eq-eqb (e % 4) 0 h)

-- one step of several
pub step_on : (n : ℕ) (cpu cpu' : Cpu) (m m' : GuestMemory) → step_of cpu m ≡ went_on cpu' m' → steps_from (suc n) (went_on cpu m) ≡ steps_from n (went_on cpu' m')
unfolding steps_from
step_on n cpu cpu' m m' e = ap (steps_from n) e

-- what holds of sixteen places that are named holds of each list of that length
pub by_sixteen : (P : List ℕ → Type 0) → ((r0 r1 r2 r3 r4 r5 r6 r7 r8 r9 r10 r11 r12 r13 r14 r15 : ℕ) → P (r0 ∷ r1 ∷ r2 ∷ r3 ∷ r4 ∷ r5 ∷ r6 ∷ r7 ∷ r8 ∷ r9 ∷ r10 ∷ r11 ∷ r12 ∷ r13 ∷ r14 ∷ r15 ∷ [])) → (r : List ℕ) → length r ≡ 16 → P r
by_sixteen P f (r0 ∷ r1 ∷ r2 ∷ r3 ∷ r4 ∷ r5 ∷ r6 ∷ r7 ∷ r8 ∷ r9 ∷ r10 ∷ r11 ∷ r12 ∷ r13 ∷ r14 ∷ r15 ∷ []) h = f r0 r1 r2 r3 r4 r5 r6 r7 r8 r9 r10 r11 r12 r13 r14 r15
by_sixteen P f _ h = absurd (omega arith)

-- ---- the entry

entry_arrives-named : (r0 r1 r2 r3 r4 r5 r6 r7 r8 g r10 r11 r12 r13 r14 p offset e h : ℕ) (n z c v : Bool) (m : GuestMemory)
    → p + 20 < 2 ^ 32
    → fetch_of m p ≡ Ok 0xe59fc008 → fetch_of m (p + 4) ≡ Ok 0xe08cc009 → fetch_of m (p + 8) ≡ Ok 0xe59c9004 → fetch_of m (p + 12) ≡ Ok 0xe59cf000
    → read32_of m (p + 16) ≡ Ok offset → read32_of m (plus g offset) ≡ Ok e → read32_of m (plus (plus g offset) 4) ≡ Ok h → e % 4 ≡ 0
    → steps_from 4 (went_on (record { r = r0 ∷ r1 ∷ r2 ∷ r3 ∷ r4 ∷ r5 ∷ r6 ∷ r7 ∷ r8 ∷ g ∷ r10 ∷ r11 ∷ r12 ∷ r13 ∷ r14 ∷ p ∷ []; n = n; z = z; c = c; v = v }) m)
    ≡ went_on (record { r = r0 ∷ r1 ∷ r2 ∷ r3 ∷ r4 ∷ r5 ∷ r6 ∷ r7 ∷ r8 ∷ h ∷ r10 ∷ r11 ∷ plus g offset ∷ r13 ∷ r14 ∷ e ∷ []; n = n; z = z; c = c; v = v }) m
unfolding execute data_processed steps_from
entry_arrives-named r0 r1 r2 r3 r4 r5 r6 r7 r8 g r10 r11 r12 r13 r14 p offset e h n z c v m below w0 w1 w2 w3 at_16 slot slot_4 aligned =
    let cpu : ℕ → ℕ → ℕ → Cpu = λ r9 r12 pc. record { r = r0 ∷ r1 ∷ r2 ∷ r3 ∷ r4 ∷ r5 ∷ r6 ∷ r7 ∷ r8 ∷ r9 ∷ r10 ∷ r11 ∷ r12 ∷ r13 ∷ r14 ∷ pc ∷ []; n = n; z = z; c = c; v = v } in
    let p4 : plus p 4 ≡ p + 4 = mod-eq_of_lt (omega arith) in
    let p8 : plus (p + 4) 4 ≡ p + 8 = omega arith in
    let p12 : plus (p + 8) 4 ≡ p + 12 = omega arith in
    let p16 : plus (plus p 8) 8 ≡ p + 16 = omega arith in
    let x0 : plus (plus g offset) 0 ≡ plus g offset = omega arith in
    let turned : (offset + g + 0) % 2 ^ 32 ≡ plus g offset = omega arith in
    let one : step_of (cpu g r12 p) m ≡ went_on (cpu g offset (p + 4)) m = word_loaded (cpu g r12 p) m 0xe59fc008 15 12 8 offset w0 entry_0 (ap (read32_of m) p16 ∙ at_16) ∙ ap (λ pc. went_on (cpu g offset pc) m) p4 in
    let two : step_of (cpu g offset (p + 4)) m ≡ went_on (cpu g (plus g offset) (p + 8)) m =
    stepped (cpu g offset (p + 4)) m 0xe08cc009 (Data 4 false 12 12 (ByImm 0 0 9)) w1 entry_1 ∙ ap (λ x. went_on (cpu g x (plus (p + 4) 4)) m) turned ∙ ap (λ pc. went_on (cpu g (plus g offset) pc) m) p8 in
    let three : step_of (cpu g (plus g offset) (p + 8)) m ≡ went_on (cpu h (plus g offset) (p + 12)) m = word_loaded (cpu g (plus g offset) (p + 8)) m 0xe59c9004 12 9 4 h w2 entry_2 slot_4 ∙ ap (λ pc. went_on (cpu h (plus g offset) pc) m) p12 in
    let four : step_of (cpu h (plus g offset) (p + 12)) m ≡ went_on (cpu h (plus g offset) e) m =
    word_loaded (cpu h (plus g offset) (p + 12)) m 0xe59cf000 12 15 0 e w3 entry_3 (ap (read32_of m) x0 ∙ slot) ∙ landed_at (cpu h (plus g offset) (p + 12)) (moved_on (cpu h (plus g offset) (p + 12))) m e aligned in
    step_on 3 (cpu g r12 p) (cpu g offset (p + 4)) m m one ∙ step_on 2 _ _ m m two ∙ step_on 1 _ _ m m three ∙ step_on 0 _ _ m m four

pub entry_arrives : (cpu : Cpu) (m : GuestMemory) (p g offset e h : ℕ) → AtEntry cpu m p g offset e h
    → steps_from 4 (went_on cpu m) ≡ went_on (record cpu { r = set (set (set cpu.r 12 (plus g offset)) 9 h) 15 e }) m
entry_arrives cpu m p g offset e h at =
    let P : List ℕ → Type 0 = λ r. get_or r 15 0 ≡ p → get_or r 9 0 ≡ g → steps_from 4 (went_on (record cpu { r = r }) m) ≡ went_on (record cpu { r = set (set (set r 12 (plus g offset)) 9 h) 15 e }) m in
    by_sixteen P (λ r0 r1 r2 r3 r4 r5 r6 r7 r8 r9 r10 r11 r12 r13 r14 r15 at_p at_g.
    rw (at_p, at_g) (entry_arrives-named r0 r1 r2 r3 r4 r5 r6 r7 r8 g r10 r11 r12 r13 r14 p offset e h cpu.n cpu.z cpu.c cpu.v m at.below at.word_0 at.word_1 at.word_2 at.word_3 at.word_4 at.slot at.slot_got at.aligned))
    cpu.r at.registers at.place at.got_register

-- ---- the lazy place

lazy_place_arrives-named : (r0 r1 r2 r3 r4 r5 r6 r7 r8 g r10 r11 r12 sp r14 z k resolver number : ℕ) (n zero_ c v : Bool) (m pushed : GuestMemory)
    → 4 ≤ z → z + 16 < 2 ^ 32 → g + 8 < 2 ^ 32 → Keeps m pushed → ((i : ℕ) → i < 8 → is_watched m (g + i) ≡ true)
    → fetch_of m z ≡ Ok 0xe51fc00c → fetch_of m (z + 4) ≡ Ok 0xe92d1000 → fetch_of m (z + 8) ≡ Ok 0xe599c004 → fetch_of m (z + 12) ≡ Ok 0xe599f000
    → read32_of m (z - 4) ≡ Ok k → write32_of m (minus sp 4) k ≡ Ok pushed → read32_of m g ≡ Ok resolver → read32_of m (g + 4) ≡ Ok number → resolver % 4 ≡ 0
    → steps_from 4 (went_on (record { r = r0 ∷ r1 ∷ r2 ∷ r3 ∷ r4 ∷ r5 ∷ r6 ∷ r7 ∷ r8 ∷ g ∷ r10 ∷ r11 ∷ r12 ∷ sp ∷ r14 ∷ z ∷ []; n = n; z = zero_; c = c; v = v }) m)
    ≡ went_on (record { r = r0 ∷ r1 ∷ r2 ∷ r3 ∷ r4 ∷ r5 ∷ r6 ∷ r7 ∷ r8 ∷ g ∷ r10 ∷ r11 ∷ number ∷ minus sp 4 ∷ r14 ∷ resolver ∷ []; n = n; z = zero_; c = c; v = v }) pushed
unfolding steps_from
lazy_place_arrives-named r0 r1 r2 r3 r4 r5 r6 r7 r8 g r10 r11 r12 sp r14 z k resolver number n zero_ c v m pushed above below g_below kept watched w0 w1 w2 w3 entry room head module_number aligned =
    let cpu : ℕ → ℕ → ℕ → Cpu = λ r12 sp pc. record { r = r0 ∷ r1 ∷ r2 ∷ r3 ∷ r4 ∷ r5 ∷ r6 ∷ r7 ∷ r8 ∷ g ∷ r10 ∷ r11 ∷ r12 ∷ sp ∷ r14 ∷ pc ∷ []; n = n; z = zero_; c = c; v = v } in
    let z4 : plus z 4 ≡ z + 4 = omega arith in
    let z8 : plus (z + 4) 4 ≡ z + 8 = omega arith in
    let z12 : plus (z + 8) 4 ≡ z + 12 = omega arith in
    let before : minus (plus z 8) 12 ≡ z - 4 = omega arith in
    let g4 : plus g 4 ≡ g + 4 = omega arith in
    let g0 : plus g 0 ≡ g = omega arith in
    let one : step_of (cpu r12 sp z) m ≡ went_on (cpu k sp (z + 4)) m = word_loaded_below (cpu r12 sp z) m 0xe51fc00c 15 12 12 k w0 lazy_0 (ap (read32_of m) before ∙ entry) ∙ ap (λ pc. went_on (cpu k sp pc) m) z4 in
    let two : step_of (cpu k sp (z + 4)) m ≡ went_on (cpu k (minus sp 4) (z + 8)) pushed = register_pushed (cpu k sp (z + 4)) m pushed 0xe92d1000 4096 12 w1 lazy_1 only_r12 room ∙ ap (λ pc. went_on (cpu k (minus sp 4) pc) pushed) z8 in
    let number' : read32_of pushed (plus g 4) ≡ Ok number = ap (read32_of pushed) g4 ∙ read_of-kept 4 m pushed (g + 4) kept (λ i l. ap (is_watched m) (add_assoc g 4 i) ∙ watched (4 + i) (omega arith)) ∙ module_number in
    let head' : read32_of pushed (plus g 0) ≡ Ok resolver = ap (read32_of pushed) g0 ∙ read_of-kept 4 m pushed g kept (λ i l. watched i (omega arith)) ∙ head in
    let three : step_of (cpu k (minus sp 4) (z + 8)) pushed ≡ went_on (cpu number (minus sp 4) (z + 12)) pushed =
    word_loaded (cpu k (minus sp 4) (z + 8)) pushed 0xe599c004 9 12 4 number (fetch_of-kept m pushed (z + 8) 0xe599c004 kept w2) lazy_2 number' ∙ ap (λ pc. went_on (cpu number (minus sp 4) pc) pushed) z12 in
    let four : step_of (cpu number (minus sp 4) (z + 12)) pushed ≡ went_on (cpu number (minus sp 4) resolver) pushed =
    word_loaded (cpu number (minus sp 4) (z + 12)) pushed 0xe599f000 9 15 0 resolver (fetch_of-kept m pushed (z + 12) 0xe599f000 kept w3) lazy_3 head' ∙ landed_at (cpu number (minus sp 4) (z + 12)) (moved_on (cpu number (minus sp 4) (z + 12))) pushed resolver aligned in
    step_on 3 (cpu r12 sp z) (cpu k sp (z + 4)) m m one ∙ step_on 2 _ _ m pushed two ∙ step_on 1 _ _ pushed pushed three ∙ step_on 0 _ _ pushed pushed four

pub lazy_place_arrives : (cpu : Cpu) (m pushed : GuestMemory) (z g k resolver number : ℕ) → AtLazyPlace cpu m pushed z g k resolver number
    → steps_from 4 (went_on cpu m) ≡ went_on (record cpu { r = set (set (set cpu.r 13 (minus (get_or cpu.r 13 0) 4)) 12 number) 15 resolver }) pushed
lazy_place_arrives cpu m pushed z g k resolver number at =
    let kept : Keeps m pushed = write_of-keeps 4 m (minus (get_or cpu.r 13 0) 4) (little_bytes 4 k) pushed at.room in
    let P : List ℕ → Type 0 = λ r. get_or r 15 0 ≡ z → get_or r 9 0 ≡ g → write32_of m (minus (get_or r 13 0) 4) k ≡ Ok pushed
    → steps_from 4 (went_on (record cpu { r = r }) m) ≡ went_on (record cpu { r = set (set (set r 13 (minus (get_or r 13 0) 4)) 12 number) 15 resolver }) pushed in
    by_sixteen P (λ r0 r1 r2 r3 r4 r5 r6 r7 r8 r9 r10 r11 r12 r13 r14 r15 at_z at_g room.
    rw (at_z, at_g) (lazy_place_arrives-named r0 r1 r2 r3 r4 r5 r6 r7 r8 g r10 r11 r12 r13 r14 z k resolver number cpu.n cpu.z cpu.c cpu.v m pushed at.above at.below at.got_below kept at.watched
    at.word_0 at.word_1 at.word_2 at.word_3 at.number room at.header at.header_module at.aligned))
    cpu.r at.registers at.place at.got_register at.room
