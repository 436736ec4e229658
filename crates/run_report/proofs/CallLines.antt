-- Lines that are built from the end on.
use Rattle.std.proofs.Common.{◌≡◌, ℕ, ◌+◌, ◌-◌, ◌<◌, ◌≤◌, ◌^◌, List, [], ◌∷◌, ◌++◌, length, drop, set, decimal, ap, ◌∙◌, arith}
use Rattle.std.proofs.lemmas.Fmt.{length-decimal-le}
use Rattle.std.proofs.lemmas.List.{append_assoc, drop-set, drop_all}

pub decimal_short : (n : ℕ) → n < 2 ^ 32 → length (decimal n) ≤ 10
decimal_short n l = length-decimal-le 10 n (omega arith) (omega arith) (omega arith)

-- a byte before what stands from a place on
pub put_before : (text later : List ℕ) (start byte : ℕ) → 0 < start → start ≤ length text → drop start text ≡ later → drop (start - 1) (set text (start - 1) byte) ≡ byte ∷ later
put_before text later start byte some inside e =
    let back : start - 1 + 1 ≡ start = omega arith in
    drop-set text (start - 1) byte (omega arith) ∙ ap (λ (xs : List ℕ). byte ∷ xs) (ap (λ (i : ℕ). drop i text) back ∙ e)

pub line_end : (text : List ℕ) → length text ≡ 64 → drop 63 (set text 63 10) ≡ 10 ∷ []
line_end text l = drop-set text 63 10 (omega arith) ∙ ap (λ (xs : List ℕ). 10 ∷ xs) (drop_all 64 text (omega arith))

pub enter_parts : (word step thread number slot end : List ℕ) → word ++ (step ++ (thread ++ (number ++ (slot ++ end)))) ≡ word ++ step ++ thread ++ number ++ slot ++ end
enter_parts word step thread number slot end =
    rw (
      append_assoc (word ++ step ++ thread ++ number) slot end,
      append_assoc (word ++ step ++ thread) number (slot ++ end),
      append_assoc (word ++ step) thread (number ++ (slot ++ end)),
      append_assoc word step (thread ++ (number ++ (slot ++ end))),
    )

pub arrive_parts : (word step thread number place end : List ℕ) → word ++ (step ++ (thread ++ (number ++ (place ++ end)))) ≡ word ++ step ++ thread ++ (number ++ place) ++ end
arrive_parts word step thread number place end =
    rw (
      append_assoc (word ++ step ++ thread) (number ++ place) end,
      append_assoc number place end,
      append_assoc (word ++ step) thread (number ++ (place ++ end)),
      append_assoc word step (thread ++ (number ++ (place ++ end))),
    )
