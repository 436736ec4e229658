-- One induction over the stages of a step, for each law of steps: what holds of registers and of the ends of a step
-- holds of what the step leaves. It takes two steps, from one cpu over two memories that have one map; for a law of
-- one step the two memories are the same.
use Rattle.std.proofs.Common.{◌≡◌, ◌≢◌, ℕ, ◌+◌, ◌*◌, ◌/◌, ◌%◌, ◌^◌, ◌<◌, ◌≤◌, Bool, true, false, cond, List, Option, Some, None, Ok, Err, length, get_or, set, refl, ap, ◌∙◌, arith}
use Rattle.std.specs.Prelude.{Result, IfSome, map, ◌==◌, ◌&&◌, not, nat_le, if◌then◌else◌}
use Rattle.std.specs.Int.{w32, leading_zeros}
use Rattle.std.specs.List.{flat_map}
use Rattle.std.proofs.lemmas.Bool.{cond_both, eqb-true, eqb-false}
use Rattle.std.proofs.lemmas.Nat.{leading_le}
use Rattle.byteorder.specs.Endian.{little_bytes}
use Rattle.guest_mem.specs.Memory.{GuestMemory, IsBytes}
use Rattle.guest_mem.specs.Accesses.{fetch_of, read_of, read_words_of, unless, with_bytes, write_of, write_refusal}
use Rattle.guest_mem.specs.parts.Kept.{Agree, SameMap}
use Rattle.guest_mem.specs.declared.kind.Access.{Access}
use Rattle.guest_mem.specs.declared.kind.MemKind.{MemKind}
use Rattle.guest_mem.proofs.Pasted.{little_bytes-fits, flat_map-fits}
use Rattle.guest_mem.proofs.Reading.{read_of-agrees, read_words_of-agrees, read_words_of-fits, fetch_of-agrees, fetch_of-fits}
use Rattle.guest_mem.proofs.Writing.{write_of-alike}
use Rattle.a32_isa.specs.Allowed.{is_allowed}
use Rattle.a32_isa.specs.Decoding.{decode_of}
use Rattle.a32_isa.specs.Fields.{Fit}
use Rattle.a32_isa.specs.Registers.{is_comparison}
use Rattle.a32_isa.specs.Table.{IsInstruction, op_fields}
use Rattle.a32_isa.specs.declared.instr.Instr.{Instr}
use Rattle.a32_isa.specs.declared.instr.Op.{Op}
use Rattle.a32_isa.specs.declared.instr.Op.TheVariants as op
use Rattle.a32_isa.proofs.Sound.{decode_of-row}
use Rattle.a32_machine.specs.declared.arithmetic.Outcome.{Outcome}
use Rattle.a32_machine.specs.declared.cpu.Cpu.{Cpu}
use Rattle.a32_machine.specs.declared.cpu.StepEnd.TheVariants.{Service}
use Rattle.a32_machine.specs.declared.cpu.StepStop.{StepStop}
use Rattle.a32_machine.specs.declared.cpu.StepStop.TheVariants.{Unaligned}
use Rattle.a32_machine.specs.declared.transfer.Size.{Size}
use Rattle.a32_machine.specs.declared.transfer.Size.TheVariants.{Byte, Half, Word}
use Rattle.fd_base.specs.Sums.{plus}
use Rattle.a32_machine.specs.Bits.{bit_of}
use Rattle.a32_machine.specs.Branches.{branch_target, linked}
use Rattle.a32_machine.specs.Condition.{holds}
use Rattle.a32_machine.specs.DataProcessing.{computed, data_processed, outcome_of, with_flags}
use Rattle.a32_machine.specs.parts.Depends.{Range, SameBytes, loads_of, loads_obeyed, loads_fetched, next_fetch, next_loads, no_bytes}
use Rattle.a32_machine.specs.parts.Fit.{IsCpu}
use Rattle.a32_machine.specs.Multiple.{base_moved, loaded_all, lowest_of, registers_of, transferred_all, with_regs}
use Rattle.a32_machine.specs.Multiplication.{long_result, multiplied, multiplied_and_added, multiplied_long, with_sign}
use Rattle.a32_machine.specs.Registers.{pc_of, reg, with_reg, moved_on}
use Rattle.a32_machine.specs.Shifter.{operand_of}
use Rattle.a32_machine.specs.Step.{execute, fetched, obeyed, step_of}
use Rattle.a32_machine.specs.Stepped.{Stepped, landed, stopped, went_on}
use Rattle.a32_machine.specs.Transfers.{address_of, half_offset, load_of, loaded, mem_offset, moved_by, stored, transferred, width_of, written_back}
use Rattle.a32_machine.proofs.Values.{plus-fits, moved_by-fits, outcome_of-fits, extended-fits, reg-fits, operand-fits, general, mul_writes, mla_writes, long_writes, clz_writes, mem_writes, half_writes, multi_writes}

-- ---- what a law of steps asks

-- a step begins with numbers within their widths
pub record IsWhole (start : Cpu) (m : GuestMemory) : Type 0 where
  pub cpu : IsCpu start
  pub bytes : IsBytes m

-- a word that a register may get, which in r15 is the address of an instruction, if the step began at one
pub record IsResult (start : Cpu) (k v : ℕ) : Type 0 where
  pub below : v < 2 ^ 32
  pub aligned : k ≡ 15 → pc_of start % 4 ≡ 0 → v % 4 ≡ 0

-- The registers of each cpu that an instruction makes are good: those at the start, with a result put in one, and with
-- words put in those of a list where r15 is the address of an instruction then.
pub record GoodRegisters (start : Cpu) (m : GuestMemory) (Good : List ℕ → Type 0) : Type 0 where
  pub begins : Good start.r
  pub sets : (r : List ℕ) (k v : ℕ) → (IsWhole start m → IsResult start k v) → Good r → Good (set r k v)
  pub loads : (r ks vs : List ℕ) → (IsWhole start m → (j : ℕ) → get_or vs j 0 < 2 ^ 32) → get_or (with_regs r ks vs) 15 0 % 4 ≡ 0 → Good r → Good (with_regs r ks vs)

-- Each of the four ends of a step: it stops, goes on, has stored bytes, or asks for a service.
pub record Ends (start : Cpu) (m n : GuestMemory) (Good : List ℕ → Type 0) (Both : Stepped → Stepped → Type 0) : Type 0 where
  pub stops : (stop : StepStop) → Both (stopped start m stop) (stopped start n stop)
  pub goes_on : (cpu : Cpu) → Good cpu.r → Both (went_on cpu m) (went_on cpu n)
  pub stores : (cpu : Cpu) (width a : ℕ) (new : List ℕ) → Good cpu.r → ((k : ℕ) → get_or new k 0 < 256) → write_of width m a new ≡ Ok (with_bytes m a new)
      → Both (went_on cpu (with_bytes m a new)) (went_on cpu (with_bytes n a new))
  pub serves : (cpu : Cpu) (number : ℕ) → Good cpu.r → Both (record { end_ = Service number; cpu = cpu; memory = m }) (record { end_ = Service number; cpu = cpu; memory = n })

-- a law that asks nothing of registers
pub any_registers : (start : Cpu) (m : GuestMemory) → GoodRegisters start m (λ r. Unit {0})
any_registers start m = record { begins = tt; sets = λ r k v l g. tt; loads = λ r ks vs l e g. tt }

-- ---- the stages

-- addresses from one that is the address of an instruction
next-aligned : (pc : ℕ) → pc % 4 ≡ 0 → plus pc 4 % 4 ≡ 0
next-aligned pc h = omega arith

target-aligned : (pc imm24 : ℕ) (back : Bool) → bit_of (4 * imm24) 25 ≡ back → pc % 4 ≡ 0 → branch_target pc imm24 % 4 ≡ 0
target-aligned pc imm24 true e a = rw e (omega arith)
target-aligned pc imm24 false e a = rw e (omega arith)

module _ (start : Cpu) (m n : GuestMemory) (same : SameMap m n) (Good : List ℕ → Type 0) (Both : Stepped → Stepped → Type 0) (good : GoodRegisters start m Good) (ends : Ends start m n Good Both) where
  abbrev IsWord : ℕ → Type 0
  IsWord v = IsWhole start m → v < 2 ^ 32

  abbrev IsGood : Cpu → Type 0
  IsGood cpu = Good cpu.r

  either : (b : Bool) (x y x' y' : Stepped) → (b ≡ true → Both x x') → (b ≡ false → Both y y') → Both (cond b x y) (cond b x' y')
  either true x y x' y' h k = h refl
  either false x y x' y' h k = k refl

  agree : (range : Range) → SameBytes m n range → Agree m n range.start range.len
  agree range h = record { bytes = h.bytes; kinds = λ i l. ap (λ (ks : List (Option MemKind)). get_or ks (range.start + i) None) same.kinds }

  -- a general register, and r15
  put : (cpu : Cpu) (k v : ℕ) → IsWord v → (IsWhole start m → k ≢ 15) → IsGood cpu → IsGood (with_reg cpu k v)
  put cpu k v l other g = good.sets cpu.r k v (λ w. record { below = l w; aligned = λ e _. absurd (other w e) }) g

  jumped : (cpu : Cpu) (v : ℕ) → IsWord v → (pc_of start % 4 ≡ 0 → v % 4 ≡ 0) → IsGood cpu → IsGood (with_reg cpu 15 v)
  jumped cpu v l a g = good.sets cpu.r 15 v (λ w. record { below = l w; aligned = λ _. a }) g

  next : IsGood (moved_on start)
  next = jumped start (plus (pc_of start) 4) (λ w. plus-fits (pc_of start) 4) (next-aligned (pc_of start)) good.begins

  linked-good : (link : Bool) → IsGood (linked link start)
  linked-good true = put start 14 (plus (pc_of start) 4) (λ w. plus-fits (pc_of start) 4) (λ w e. omega arith) good.begins
  linked-good false = good.begins

  with_flags-good : (s : Bool) (o : Outcome) (cpu : Cpu) → IsGood cpu → IsGood (with_flags s o cpu)
  with_flags-good true o cpu g = g
  with_flags-good false o cpu g = g

  signed : (s : Bool) (width product : ℕ) → IsGood (with_sign s width product (moved_on start))
  signed true width product = next
  signed false width product = next

  landed-ends : (cpu : Cpu) (d v : ℕ) → IsWord v → IsGood cpu → Both (landed start cpu m d v) (landed start cpu n d v)
  landed-ends cpu d v l g =
      either (d == 15) _ _ _ _
      (λ _. either (v % 4 == 0) _ _ _ _ (λ e. ends.goes_on (with_reg cpu 15 v) (jumped cpu v l (λ _. eqb-true (v % 4) 0 e) g)) (λ _. ends.stops (Unaligned v)))
      (λ e. ends.goes_on (with_reg cpu d v) (put cpu d v l (λ _. eqb-false d 15 e) g))

  computed-ends : (code : ℕ) (s : Bool) (d : ℕ) (o : Outcome) → IsWord o.value → Both (computed code s d o start m) (computed code s d o start n)
  computed-ends code s d o l =
      let flagged : IsGood (with_flags s o (moved_on start)) = with_flags-good s o (moved_on start) next in
      either (is_comparison code) _ _ _ _ (λ _. ends.goes_on (with_flags s o (moved_on start)) flagged) (λ _. landed-ends (with_flags s o (moved_on start)) d o.value l flagged)

  loaded-ends : (cpu : Cpu) (d : ℕ) (r : Result ℕ Access) → ((v : ℕ) → r ≡ Ok v → IsWord v) → IsGood cpu → Both (loaded start cpu m d r) (loaded start cpu n d r)
  loaded-ends cpu d (Err e) l g = ends.stops _
  loaded-ends cpu d (Ok v) l g = landed-ends cpu d v (l v refl) g

  loaded_all-ends : (cpu : Cpu) (ks : List ℕ) (r : Result (List ℕ) Access) → ((vs : List ℕ) → r ≡ Ok vs → IsWhole start m → (j : ℕ) → get_or vs j 0 < 2 ^ 32) → IsGood cpu
      → Both (loaded_all start cpu m ks r) (loaded_all start cpu n ks r)
  loaded_all-ends cpu ks (Err e) l g = ends.stops _
  loaded_all-ends cpu ks (Ok vs) l g =
      let after : Cpu = record cpu { r = with_regs cpu.r ks vs } in
      either (pc_of after % 4 == 0) (went_on after m) (stopped start m (Unaligned (pc_of after))) (went_on after n) (stopped start n (Unaligned (pc_of after)))
      (λ e. ends.goes_on after (good.loads cpu.r ks vs (l vs refl) (eqb-true (pc_of after % 4) 0 e) g)) (λ _. ends.stops (Unaligned (pc_of after)))

  put_bytes-ends : (cpu : Cpu) (width a : ℕ) (new : List ℕ) (refusal : Option Access) → write_refusal width (length new) m a ≡ refusal → ((k : ℕ) → get_or new k 0 < 256) → IsGood cpu
      → Both (stored start cpu m (unless refusal (with_bytes m a new))) (stored start cpu n (unless refusal (with_bytes n a new)))
  put_bytes-ends cpu width a new None e l g = ends.stores cpu width a new g l (write_of-alike width m m a new refl refl ∙ ap (λ r. unless r (with_bytes m a new)) e)
  put_bytes-ends cpu width a new (Some refused) e l g = ends.stops _

  stored-ends : (cpu : Cpu) (width a : ℕ) (new : List ℕ) → ((k : ℕ) → get_or new k 0 < 256) → IsGood cpu
      → Both (stored start cpu m (write_of width m a new)) (stored start cpu n (write_of width n a new))
  stored-ends cpu width a new l g =
      rw (write_of-alike width m m a new refl refl, write_of-alike width m n a new same.kinds same.marks) (put_bytes-ends cpu width a new (write_refusal width (length new) m a) refl l g)

  transferred-ends : (load signed : Bool) (size : Size) (p w : Bool) (k d moved : ℕ) → IsWord moved → (IsWhole start m → (p && not w) ≡ false → k ≢ 15)
      → (load ≡ true → Agree m n (address_of p (reg start k) moved) (width_of size)) → Both (transferred load signed size p w k d moved start m) (transferred load signed size p w k d moved start n)
  unfolding transferred
  transferred-ends load signed size p w k d moved l other h =
      let a : ℕ = address_of p (reg start k) moved in
      let cpu : Cpu = written_back p w k moved (moved_on start) in
      let back : IsGood (written_back p w k moved (moved_on start)) =
      cond_both (p && not w) (moved_on start) (with_reg (moved_on start) k moved) IsGood (λ _. next) (λ e. put (moved_on start) k moved l (λ w'. other w' e) next) in
      either load _ _ _ _
      (λ e. rw (read_of-agrees (width_of size) m n a (h e)) (loaded-ends cpu d (load_of signed size m a) (λ v e w. extended-fits signed size m a v (read_of (width_of size) m a) w.bytes refl e) back))
      (λ _. stored-ends cpu (width_of size) a (little_bytes (width_of size) (reg start d)) (little_bytes-fits (width_of size) (reg start d)) back)

  transferred_all-ends : (load p u w : Bool) (k : ℕ) (ks : List ℕ) → (IsWhole start m → k ≢ 15)
      → (load ≡ true → Agree m n (lowest_of p u (reg start k) (length ks)) (4 * length ks)) → Both (transferred_all load p u w k ks start m) (transferred_all load p u w k ks start n)
  unfolding transferred_all
  transferred_all-ends load p u w k ks other h =
      let base : ℕ = reg start k in
      let count : ℕ = length ks in
      let moved : ℕ = moved_by u base (4 * count) in
      let a : ℕ = lowest_of p u base count in
      let cpu : Cpu = base_moved u w k count start in
      let back : IsGood (base_moved u w k count start) =
      cond_both w (with_reg (moved_on start) k moved) (moved_on start) IsGood (λ _. put (moved_on start) k moved (λ _. moved_by-fits u base (4 * count)) other next) (λ _. next) in
      either load _ _ _ _
      (λ e. rw (read_words_of-agrees count m n a (h e)) (loaded_all-ends cpu ks (read_words_of m a count) (λ vs e w. read_words_of-fits m a count vs w.bytes e) back))
      (λ _. stored-ends cpu 4 a (flat_map (little_bytes 4) (map (reg start) ks)) (flat_map-fits 4 (map (reg start) ks)) back)

  -- the range of a load that is one
  of_load : (load : Bool) (range : Range) → SameBytes m n (if load then range else no_bytes) → load ≡ true → Agree m n range.start range.len
  of_load true range h e = agree range h
  of_load false range h e = cc

  execute-ends : (o : Op) → (IsWhole start m → Fit (op_fields o)) → (IsWhole start m → is_allowed o ≡ true) → SameBytes m n (loads_of o start) → Both (execute o start m) (execute o start n)
  unfolding execute data_processed multiplied multiplied_and_added multiplied_long
  execute-ends (op.Data code s k d arg) fit allowed h =
      computed-ends code s d (outcome_of code start (reg start k) (operand_of start arg))
      (λ w. outcome_of-fits code start (reg start k) (operand_of start arg) (reg-fits start k w.cpu) (operand-fits start arg w.cpu (fit w).1.1.1.1.1))
  execute-ends (op.Mul s d s2 k) fit allowed h =
      let product : ℕ = (reg start k * reg start s2) % 2 ^ 32 in
      ends.goes_on _ (put (with_sign s 32 product (moved_on start)) d product (λ w. omega arith) (λ w. mul_writes s d s2 k (allowed w)) (signed s 32 product))
  execute-ends (op.Mla s d k s2 k') fit allowed h =
      let product : ℕ = (reg start k' * reg start s2 + reg start k) % 2 ^ 32 in
      ends.goes_on _ (put (with_sign s 32 product (moved_on start)) d product (λ w. omega arith) (λ w. mla_writes s d k s2 k' (allowed w)) (signed s 32 product))
  execute-ends (op.Long kind s hi lo s2 k) fit allowed h =
      let product : ℕ = long_result kind (reg start k) (reg start s2) (2 ^ 32 * reg start hi + reg start lo) in
      ends.goes_on _ (put (with_reg (with_sign s 64 product (moved_on start)) lo (product % 2 ^ 32)) hi (product / 2 ^ 32) (λ w. omega arith) (λ w. (long_writes kind s hi lo s2 k (allowed w)).0)
      (put (with_sign s 64 product (moved_on start)) lo (product % 2 ^ 32) (λ w. omega arith) (λ w. (long_writes kind s hi lo s2 k (allowed w)).1) (signed s 64 product)))
  execute-ends (op.Clz d k) fit allowed h =
      let few : leading_zeros w32 (reg start k) ≤ 32 = leading_le 32 (reg start k) in
      ends.goes_on _ (put (moved_on start) d (leading_zeros w32 (reg start k)) (λ w. omega arith) (λ w. clz_writes d k (allowed w)) next)
  execute-ends (op.Movw d imm16) fit allowed h =
      ends.goes_on _ (put (moved_on start) d imm16 (λ w. let small : imm16 / 4096 < 2 ^ 4 = (fit w).1.1.1.0 in omega arith) (λ w. general d (allowed w)) next)
  execute-ends (op.Movt d imm16) fit allowed h =
      ends.goes_on _ (put (moved_on start) d (imm16 * 2 ^ 16 + reg start d % 2 ^ 16) (λ w. let small : imm16 / 4096 < 2 ^ 4 = (fit w).1.1.1.0 in omega arith) (λ w. general d (allowed w)) next)
  execute-ends op.Nop fit allowed h = ends.goes_on _ next
  execute-ends (op.Mem load byte p u w k d off) fit allowed h =
      let moved : ℕ = moved_by u (reg start k) (mem_offset start off) in
      let size : Size = if byte then Byte else Word in
      transferred-ends load false size p w k d moved (λ _. moved_by-fits u (reg start k) (mem_offset start off)) (λ w'. mem_writes load byte p u w k d off (allowed w'))
      (of_load load (record { start = address_of p (reg start k) moved; len = width_of size }) h)
  execute-ends (op.Half kind p u w k d off) fit allowed h =
      let moved : ℕ = moved_by u (reg start k) (half_offset start off) in
      let size : Size = if kind == 2 then Byte else Half in
      transferred-ends (not (kind == 0)) (nat_le 2 kind) size p w k d moved (λ _. moved_by-fits u (reg start k) (half_offset start off)) (λ w'. half_writes kind p u w k d off (allowed w'))
      (of_load (not (kind == 0)) (record { start = address_of p (reg start k) moved; len = width_of size }) h)
  execute-ends (op.Multi load p u w k list) fit allowed h =
      transferred_all-ends load p u w k (registers_of list) (λ w'. multi_writes load p u w k list (allowed w'))
      (of_load load (record { start = lowest_of p u (reg start k) (length (registers_of list)); len = 4 * length (registers_of list) }) h)
  execute-ends (op.Branch link imm24) fit allowed h =
      ends.goes_on _ (jumped (linked link start) (branch_target (pc_of start) imm24) (λ _. plus-fits _ _) (target-aligned (pc_of start) imm24 (bit_of (4 * imm24) 25) refl) (linked-good link))
  execute-ends (op.Bx k) fit allowed h = landed-ends start 15 (reg start k) (λ w. reg-fits start k w.cpu) good.begins
  execute-ends (op.Blx k) fit allowed h = landed-ends (linked true start) 15 (reg start k) (λ w. reg-fits start k w.cpu) (linked-good true)
  execute-ends (op.Svc imm24) fit allowed h = ends.serves _ imm24 next

  either_holds : (b : Bool) (range : Range) (x y x' y' : Stepped) → SameBytes m n (if b then range else no_bytes) → (SameBytes m n range → Both x x') → Both y y' → Both (cond b x y) (cond b x' y')
  either_holds true range x y x' y' h f k = f h
  either_holds false range x y x' y' h f k = k

  obeyed-ends : (w : ℕ) (o : Option Instr) → (IsWhole start m → IfSome o (IsInstruction w)) → SameBytes m n (loads_obeyed start o) → Both (obeyed start m w o) (obeyed start n w o)
  obeyed-ends w None row h = ends.stops _
  obeyed-ends w (Some i) row h =
      either_holds (holds i.cond start) (loads_of i.op start) _ _ _ _ h (execute-ends i.op (λ w'. (row w').instr.fit.1) (λ w'. (row w').instr.allowed)) (ends.goes_on (moved_on start) next)

  fetched-ends : (r : Result ℕ Access) → fetch_of m (pc_of start) ≡ r → SameBytes m n (loads_fetched start r) → Both (fetched start m r) (fetched start n r)
  fetched-ends (Err e) f h = ends.stops _
  fetched-ends (Ok word) f h = obeyed-ends word (decode_of word) (λ w. decode_of-row word (fetch_of-fits m (pc_of start) word w.bytes f)) h

  pub both_steps : SameBytes m n (next_fetch start) → SameBytes m n (next_loads start m) → Both (step_of start m) (step_of start n)
  unfolding step_of
  both_steps f h = rw (fetch_of-agrees m n (pc_of start) (agree (next_fetch start) f)) (fetched-ends (fetch_of m (pc_of start)) refl h)

-- a law of one step
pub each_step : (start : Cpu) (m : GuestMemory) (Good : List ℕ → Type 0) (Holds : Stepped → Type 0) → GoodRegisters start m Good → Ends start m m Good (λ s t. Holds s) → Holds (step_of start m)
each_step start m Good Holds good ends =
    both_steps start m m (record { kinds = refl; marks = refl; size = refl }) Good (λ s t. Holds s) good ends (record { bytes = λ i l. refl }) (record { bytes = λ i l. refl })
