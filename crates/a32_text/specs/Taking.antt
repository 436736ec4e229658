-- Tokens taken from the front of others.
use Rattle.std.specs.Prelude.{◌≡◌, ℕ, Bool, true, false, ◌==◌, List, [], ◌∷◌, Option, Some, None, option_map, option_and_then, if◌then◌else◌}
use Rattle.fd_base.specs.Texts.{number_of}
use Rattle.a32_text.specs.Token.{Token, Word, Mark, Gap, COMMA}
use Rattle.a32_text.specs.Word.{register_of, is_name}

-- what is taken, and the tokens behind it
abbrev pub Taken : Type 0 → Type 0
Taken X = Option (X × List Token)

-- one thing, and then what follows it
abbrev pub followed : {X Y : Type 0} → Taken X → (X → List Token → Taken Y) → Taken Y
followed None next = None
followed (Some taken) next = next taken.0 taken.1

-- what is taken, where nothing stands behind it
abbrev pub ended : {X : Type 0} → Taken X → Option X
ended None = None
ended (Some (x, [])) = Some x
ended (Some (x, token ∷ tokens)) = None

abbrev pub behind_mark : ℕ → List Token → Option (List Token)
behind_mark wanted [] = None
behind_mark wanted (Mark byte ∷ tokens) = if byte == wanted then Some tokens else None
behind_mark wanted (Word bytes ∷ tokens) = None
behind_mark wanted (Gap ∷ tokens) = None

abbrev pub behind_gap : List Token → Option (List Token)
behind_gap [] = None
behind_gap (Gap ∷ tokens) = Some tokens
behind_gap (Word bytes ∷ tokens) = None
behind_gap (Mark byte ∷ tokens) = None

abbrev pub take_word : List Token → Taken (List ℕ)
take_word [] = None
take_word (Word bytes ∷ tokens) = Some (bytes, tokens)
take_word (Mark byte ∷ tokens) = None
take_word (Gap ∷ tokens) = None

-- a word that stands for something
abbrev pub take_by : {X : Type 0} → (List ℕ → Option X) → List Token → Taken X
take_by meaning tokens = followed (take_word tokens) (λ word rest. option_map (λ x. (x, rest)) (meaning word))

unfoldable pub take_register : List Token → Taken ℕ
take_register tokens = take_by register_of tokens

unfoldable pub take_number : List Token → Taken ℕ
take_number tokens = take_by number_of tokens

-- a register behind a comma
unfoldable pub take_next_register : List Token → Taken ℕ
take_next_register tokens = option_and_then take_register (behind_mark COMMA tokens)

-- a number behind `#`
unfoldable pub take_immediate : List Token → Taken ℕ
take_immediate tokens = option_and_then take_number (behind_mark 0x23 tokens)

-- two registers with a comma between them
unfoldable pub take_pair : List Token → Taken (ℕ × ℕ)
take_pair tokens = followed (take_register tokens) (λ first rest. followed (take_next_register rest) (λ second last. Some ((first, second), last)))

unfoldable pub take_name : List Token → Taken (List ℕ)
take_name tokens = followed (take_word tokens) (λ word rest. if is_name word then Some (word, rest) else None)

-- ---- what code answers that takes tokens

abbrev pub Takes : {X : Type 0} → Option X → List Token → Taken X → Type 0
Takes None rest wanted = wanted ≡ None
Takes (Some x) rest wanted = wanted ≡ Some (x, rest)

-- whether a mark stood first and was taken
abbrev pub MarkTaken : Bool → List Token → List Token → Option (List Token) → Type 0
MarkTaken true old new wanted = wanted ≡ Some new
MarkTaken false old new wanted = (wanted ≡ None) × (new ≡ old)

-- whether something that had to stand first was taken
abbrev pub RestTaken : Option (Unit {0}) → List Token → Option (List Token) → Type 0
RestTaken None rest wanted = wanted ≡ None
RestTaken (Some done) rest wanted = wanted ≡ Some rest
