-- The words of an entry of the PLT (Arm FDPIC ABI, "Procedure Linkage Table"). r9 holds the address of the GOT.
use Rattle.std.specs.Prelude.{ℕ, List, [], ◌∷◌, ◌++◌}

-- The call through the slot: ldr r12, [pc, #8]; add r12, r12, r9; ldr r9, [r12, #4]; ldr pc, [r12]. The slot's address
-- is r9 and L1, the word behind these four. The slot's second word goes to r9, its first to pc.
abbrev pub call_words : List ℕ
call_words = 0xe59f_c008 ∷ 0xe08c_c009 ∷ 0xe59c_9004 ∷ 0xe59c_f000 ∷ []

-- The call of the resolver, to which an unbound slot leads: ldr r12, [pc, #-12]; push {r12}; ldr r12, [r9, #4]; ldr pc,
-- [r9]. L2, the word before these four, goes onto the stack, and the GOT's second and first word to r12 and pc.
abbrev pub lazy_words : List ℕ
lazy_words = 0xe51f_c00c ∷ 0xe92d_1000 ∷ 0xe599_c004 ∷ 0xe599_f000 ∷ []

-- L1 is the slot's offset from the GOT, L2 the byte offset of the slot's relocation in DT_JMPREL
abbrev pub entry_words : ℕ → ℕ → List ℕ
entry_words l1 l2 = call_words ++ l1 ∷ l2 ∷ lazy_words
