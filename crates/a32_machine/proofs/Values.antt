-- What instructions compute stays below 2^32, and which registers the table lets them write.
use Rattle.std.proofs.Common.{◌≡◌, ◌≢◌, ℕ, suc, ◌+◌, ◌-◌, ◌*◌, ◌/◌, ◌%◌, ◌^◌, ◌<◌, ◌≤◌, Bool, true, false, cond, List, [], ◌∷◌, Ok, Err, length, get_or, set, refl, ap, ◌∙◌, arith}
use Rattle.std.specs.Prelude.{Result, ◌==◌, ◌&&◌, ◌||◌, not, bit_and, bit_or, bit_xor, nat_lt, if◌then◌else◌}
use Rattle.std.proofs.Math.Nat.{pow-le-pow_right}
use Rattle.std.proofs.lemmas.Bool.{and_parts, cond_both, ltb-true}
use Rattle.std.proofs.lemmas.List.{length-set}
use Rattle.std.proofs.lemmas.Nat.{and_le_l, or_of_32, shr_below, shr_le, xor_of_32}
use Rattle.guest_mem.specs.Memory.{GuestMemory, IsBytes}
use Rattle.guest_mem.specs.Accesses.{read_of}
use Rattle.guest_mem.specs.declared.kind.Access.{Access}
use Rattle.guest_mem.proofs.Pasted.{set-fits}
use Rattle.guest_mem.proofs.Reading.{read_of-fits}
use Rattle.a32_isa.specs.Allowed.{is_allowed, is_base_allowed, is_half_off_allowed, is_mem_off_allowed}
use Rattle.a32_isa.specs.Fields.{Fit}
use Rattle.a32_isa.specs.Registers.{differs, is_general, is_listed}
use Rattle.a32_isa.specs.Table.{arg_fields}
use Rattle.a32_isa.specs.declared.instr.Arg.{Arg}
use Rattle.a32_isa.specs.declared.instr.Arg.TheVariants.{Imm, ByImm, ByReg}
use Rattle.a32_isa.specs.declared.instr.HalfOff.{HalfOff}
use Rattle.a32_isa.specs.declared.instr.MemOff.{MemOff}
use Rattle.a32_isa.specs.declared.instr.Op.TheVariants as op
use Rattle.a32_machine.specs.declared.arithmetic.Outcome.{Outcome}
use Rattle.a32_machine.specs.declared.shifter.Shifted.{Shifted}
use Rattle.a32_machine.specs.declared.cpu.Cpu.{Cpu}
use Rattle.a32_machine.specs.declared.transfer.Size.{Size}
use Rattle.a32_machine.specs.declared.transfer.Size.TheVariants.{Byte, Half, Word}
use Rattle.a32_machine.specs.Arithmetic.{added, inverted}
use Rattle.fd_base.specs.Sums.{plus, minus}
use Rattle.a32_machine.specs.Bits.{bit_of, sign_extended}
use Rattle.a32_machine.specs.DataProcessing.{logical, outcome_of}
use Rattle.a32_machine.specs.parts.Fit.{IsCpu}
use Rattle.a32_machine.specs.Multiple.{with_regs}
use Rattle.a32_machine.specs.Registers.{pc_of, reg}
use Rattle.a32_machine.specs.Shifter.{shifted_left, shifted_right, sign_shifted_right, rotated_right, rotated_with_carry, shifted_by, shifted_at, operand_of}
use Rattle.a32_machine.specs.Transfers.{extend, extended, moved_by, width_of}

-- what holds of two values holds of the one that is taken
either : {X : Type 0} (P : X → Type 0) (b : Bool) (x y : X) → P x → P y → P (cond b x y)
either P b x y h k = cond_both b x y P (λ _. h) (λ _. k)

abbrev IsWord : ℕ → Type 0
IsWord v = v < 2 ^ 32

abbrev IsShifted : Shifted → Type 0
IsShifted s = s.value < 2 ^ 32

abbrev IsOutcome : Outcome → Type 0
IsOutcome o = o.value < 2 ^ 32

-- ---- numbers

pub plus-fits : (a b : ℕ) → plus a b < 2 ^ 32
plus-fits a b = omega arith

minus-fits : (a b : ℕ) → minus a b < 2 ^ 32
minus-fits a b = omega arith

pub moved_by-fits : (u : Bool) (a b : ℕ) → moved_by u a b < 2 ^ 32
moved_by-fits u a b = either IsWord u (plus a b) (minus a b) (plus-fits a b) (minus-fits a b)

-- ---- shifts

left-fits : (x by : ℕ) → (shifted_left x by).value < 2 ^ 32
left-fits x by = omega arith

right-fits : (x by : ℕ) → x < 2 ^ 32 → (shifted_right x by).value < 2 ^ 32
right-fits x by h = omega (arith, shr_le x by)

sign-fits : (x by : ℕ) → x < 2 ^ 32 → (sign_shifted_right x by).value < 2 ^ 32
sign-fits x by h =
    let power : 2 ^ 32 ≤ 2 ^ (32 + by) = pow-le-pow_right (omega arith) {i = 32} {j = 32 + by} (omega arith) in
    shr_below (sign_extended 32 (32 + by) x) 32 by (either (λ v. v < 2 ^ (32 + by)) (bit_of x 31) (x + (2 ^ (32 + by) - 2 ^ 32)) x (omega arith) (omega arith))

turned-fits : (x by : ℕ) → x < 2 ^ 32 → (rotated_right x by).value < 2 ^ 32
turned-fits x by h = or_of_32 (x / 2 ^ (by % 32)) ((x * 2 ^ ((32 - by % 32) % 32)) % 2 ^ 32) (omega (arith, shr_le x (by % 32))) (omega arith)

with_carry-fits : (x : ℕ) (carry : Bool) → x < 2 ^ 32 → (rotated_with_carry x carry).value < 2 ^ 32
with_carry-fits x true h = omega arith
with_carry-fits x false h = omega arith

shifted_by-fits : (kind x by : ℕ) (carry : Bool) → x < 2 ^ 32 → (shifted_by kind x by carry).value < 2 ^ 32
shifted_by-fits kind x by carry h =
    either IsShifted (by == 0) (record { value = x; carry = carry }) _ h
    (either IsShifted (kind == 0) (shifted_left x by) _ (left-fits x by)
    (either IsShifted (kind == 1) (shifted_right x by) _ (right-fits x by h)
    (either IsShifted (kind == 2) (sign_shifted_right x by) (rotated_right x by) (sign-fits x by h) (turned-fits x by h))))

shifted_at-fits : (kind x imm : ℕ) (carry : Bool) → x < 2 ^ 32 → (shifted_at kind x imm carry).value < 2 ^ 32
shifted_at-fits kind x imm carry h =
    either IsShifted (kind == 0) (shifted_by 0 x imm carry) _ (shifted_by-fits 0 x imm carry h)
    (either IsShifted (kind == 1) (shifted_by 1 x (if imm == 0 then 32 else imm) carry) _ (shifted_by-fits 1 x (if imm == 0 then 32 else imm) carry h)
    (either IsShifted (kind == 2) (shifted_by 2 x (if imm == 0 then 32 else imm) carry) _ (shifted_by-fits 2 x (if imm == 0 then 32 else imm) carry h)
    (either IsShifted (imm == 0) (rotated_with_carry x carry) (shifted_by 3 x imm carry) (with_carry-fits x carry h) (shifted_by-fits 3 x imm carry h))))

-- ---- data operations

added-fits : (a b : ℕ) (carry : Bool) → (added a b carry).value < 2 ^ 32
added-fits a b carry = omega arith

and-fits : (a b : ℕ) → a < 2 ^ 32 → bit_and a b < 2 ^ 32
and-fits a b h = omega (arith, and_le_l a b)

inverted-fits : (x : ℕ) → inverted x < 2 ^ 32
inverted-fits x = omega arith

pub outcome_of-fits : (code : ℕ) (cpu : Cpu) (a : ℕ) (b : Shifted) → a < 2 ^ 32 → b.value < 2 ^ 32 → (outcome_of code cpu a b).value < 2 ^ 32
outcome_of-fits code cpu a b h k =
    either IsOutcome (code == 0) (logical cpu b (bit_and a b.value)) _ (and-fits a b.value h)
    (either IsOutcome (code == 1) (logical cpu b (bit_xor a b.value)) _ (xor_of_32 a b.value h k)
    (either IsOutcome (code == 2) (added a (inverted b.value) true) _ (added-fits a (inverted b.value) true)
    (either IsOutcome (code == 3) (added (inverted a) b.value true) _ (added-fits (inverted a) b.value true)
    (either IsOutcome (code == 4) (added a b.value false) _ (added-fits a b.value false)
    (either IsOutcome (code == 5) (added a b.value cpu.c) _ (added-fits a b.value cpu.c)
    (either IsOutcome (code == 6) (added a (inverted b.value) cpu.c) _ (added-fits a (inverted b.value) cpu.c)
    (either IsOutcome (code == 7) (added (inverted a) b.value cpu.c) _ (added-fits (inverted a) b.value cpu.c)
    (either IsOutcome (code == 8) (logical cpu b (bit_and a b.value)) _ (and-fits a b.value h)
    (either IsOutcome (code == 9) (logical cpu b (bit_xor a b.value)) _ (xor_of_32 a b.value h k)
    (either IsOutcome (code == 10) (added a (inverted b.value) true) _ (added-fits a (inverted b.value) true)
    (either IsOutcome (code == 11) (added a b.value false) _ (added-fits a b.value false)
    (either IsOutcome (code == 12) (logical cpu b (bit_or a b.value)) _ (or_of_32 a b.value h k)
    (either IsOutcome (code == 13) (logical cpu b b.value) _ k
    (either IsOutcome (code == 14) (logical cpu b (bit_and a (inverted b.value))) (logical cpu b (inverted b.value)) (and-fits a (inverted b.value) h) (inverted-fits b.value)))))))))))))))

-- ---- loads

extend-fits : (signed : Bool) (size : Size) (v : ℕ) → v < 256 ^ width_of size → extend signed size v < 2 ^ 32
extend-fits true Byte v h = either IsWord (bit_of v 7) (v + (2 ^ 32 - 2 ^ 8)) v (omega arith) (omega arith)
extend-fits true Half v h = either IsWord (bit_of v 15) (v + (2 ^ 32 - 2 ^ 16)) v (omega arith) (omega arith)
extend-fits true Word v h = either IsWord (bit_of v 31) (v + (2 ^ 32 - 2 ^ 32)) v (omega arith) (omega arith)
extend-fits false Byte v h = omega arith
extend-fits false Half v h = omega arith
extend-fits false Word v h = omega arith

pub extended-fits : (signed : Bool) (size : Size) (m : GuestMemory) (a v : ℕ) (r : Result ℕ Access) → IsBytes m → read_of (width_of size) m a ≡ r → extended signed size r ≡ Ok v → v < 2 ^ 32
extended-fits signed size m a v (Err e) bytes h k = cc
extended-fits signed size m a v (Ok x) bytes h k =
    let same : extend signed size x ≡ v = cc in
    rw (← same) (extend-fits signed size x (read_of-fits (width_of size) m a x bytes h))

-- ---- registers that the table lets an instruction write

pub general : (n : ℕ) → is_general n ≡ true → n ≢ 15
general n h = λ e. cc (ap is_general e)

first_of : (a b c : Bool) → (a && b && c) ≡ true → a ≡ true
first_of a b c h = (and_parts a b (and_parts (a && b) c h).0).0

or-false : (x y : Bool) → (x || y) ≡ true → x ≡ false → y ≡ true
or-false x y h e = cc

base_general : (p w : Bool) (n d : ℕ) → is_base_allowed p w n d ≡ true → (p && not w) ≡ false → n ≢ 15
base_general p w n d h e =
    let parts = and_parts (p || not w) _ h in
    general n (and_parts (is_general n) (differs n d) (or-false (p && not w) _ parts.1 e)).0

pub mul_writes : (s : Bool) (d s2 k : ℕ) → is_allowed (op.Mul s d s2 k) ≡ true → d ≢ 15
mul_writes s d s2 k h = general d (first_of (is_general d) (is_general s2) (is_general k) h)

pub mla_writes : (s : Bool) (d n s2 k : ℕ) → is_allowed (op.Mla s d n s2 k) ≡ true → d ≢ 15
mla_writes s d n s2 k h = general d (first_of (is_general d) (is_general n) (is_general s2) (and_parts (is_general d && is_general n && is_general s2) (is_general k) h).0)

pub long_writes : (kind : ℕ) (s : Bool) (hi lo s2 k : ℕ) → is_allowed (op.Long kind s hi lo s2 k) ≡ true → (hi ≢ 15) × (lo ≢ 15)
long_writes kind s hi lo s2 k h =
    let row = first_of (is_general hi && is_general lo && is_general s2) (is_general k) (differs hi lo) h in
    let both = and_parts (is_general hi) (is_general lo) (and_parts (is_general hi && is_general lo) (is_general s2) row).0 in
    (general hi both.0, general lo both.1)

pub clz_writes : (d k : ℕ) → is_allowed (op.Clz d k) ≡ true → d ≢ 15
clz_writes d k h = general d (and_parts (is_general d) (is_general k) h).0

pub mem_writes : (load byte p u w : Bool) (n d : ℕ) (off : MemOff) → is_allowed (op.Mem load byte p u w n d off) ≡ true → (p && not w) ≡ false → n ≢ 15
mem_writes load byte p u w n d off h = base_general p w n d (first_of (is_base_allowed p w n d) (is_general d || (load && not byte)) (is_mem_off_allowed off) h)

pub half_writes : (kind : ℕ) (p u w : Bool) (n d : ℕ) (off : HalfOff) → is_allowed (op.Half kind p u w n d off) ≡ true → (p && not w) ≡ false → n ≢ 15
half_writes kind p u w n d off h =
    base_general p w n d (and_parts (nat_lt kind 4) (is_base_allowed p w n d) (first_of (nat_lt kind 4 && is_base_allowed p w n d) (is_general d) (is_half_off_allowed off) h)).1

pub multi_writes : (load p u w : Bool) (n list : ℕ) → is_allowed (op.Multi load p u w n list) ≡ true → n ≢ 15
multi_writes load p u w n list h =
    let row = first_of (differs list 0 && nat_lt n 15) (not (w && is_listed list n)) (load || not (is_listed list 15)) h in
    let below : n < 15 = ltb-true n 15 (and_parts (differs list 0) (nat_lt n 15) row).1 in
    λ e. omega arith

-- ---- registers

pub reg-fits : (cpu : Cpu) (n : ℕ) → IsCpu cpu → reg cpu n < 2 ^ 32
reg-fits cpu n h = either IsWord (n == 15) (plus (pc_of cpu) 8) (get_or cpu.r n 0) (plus-fits (pc_of cpu) 8) (h.fit n)

pub operand-fits : (cpu : Cpu) (arg : Arg) → IsCpu cpu → Fit (arg_fields arg) → (operand_of cpu arg).value < 2 ^ 32
operand-fits cpu (Imm rot imm) h fit = let small : imm < 2 ^ 8 = fit.1.0 in shifted_by-fits 3 imm (2 * rot) cpu.c (omega arith)
operand-fits cpu (ByImm imm kind k) h fit = shifted_at-fits kind (reg cpu k) imm cpu.c (reg-fits cpu k h)
operand-fits cpu (ByReg s2 kind k) h fit = shifted_by-fits kind (reg cpu k) (reg cpu s2 % 256) cpu.c (reg-fits cpu k h)

pub with_regs-fits : (ks vs r : List ℕ) → ((j : ℕ) → get_or vs j 0 < 2 ^ 32) → ((j : ℕ) → get_or r j 0 < 2 ^ 32) → (i : ℕ) → get_or (with_regs r ks vs) i 0 < 2 ^ 32
with_regs-fits [] vs r v h i = h i
with_regs-fits (k ∷ ks) [] r v h i = h i
with_regs-fits (k ∷ ks) (x ∷ vs) r v h i = with_regs-fits ks vs (set r k x) (λ j. v (suc j)) (set-fits r k x (2 ^ 32) h (v 0)) i

pub with_regs-length : (ks vs r : List ℕ) → length (with_regs r ks vs) ≡ length r
with_regs-length [] vs r = refl
with_regs-length (k ∷ ks) [] r = refl
with_regs-length (k ∷ ks) (x ∷ vs) r = with_regs-length ks vs (set r k x) ∙ length-set r k x
