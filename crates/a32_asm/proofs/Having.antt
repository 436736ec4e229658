-- What holds of whatever is taken from tokens, or answered.
use Rattle.std.proofs.Common.{◌≡◌, Bool, true, false, List, [], ◌∷◌, Option, Some, None, Result, Ok}
use Rattle.std.specs.Prelude.{IfSome, IfOk, if◌then◌else◌, option_map, option_and_then}
use Rattle.std.specs.Option.{option_or, option_map_or}
use Rattle.a32_text.specs.Token.{Token}
use Rattle.a32_text.specs.Taking.{Taken, followed, ended}

-- ---- options

pub any_some : {X : Type 0} (o : Option X) → IfSome o (λ x. Unit {0})
any_some None = tt
any_some (Some x) = tt

pub if_some : {X : Type 0} (P : X → Type 0) (b : Bool) (x : X) → (b ≡ true → P x) → IfSome (if b then Some x else None) P
if_some P true x h = h (λ i. true)
if_some P false x h = tt

pub if_either : {X : Type 0} (P : X → Type 0) (b : Bool) (o p : Option X) → (b ≡ true → IfSome o P) → (b ≡ false → IfSome p P) → IfSome (if b then o else p) P
if_either P true o p h k = h (λ i. true)
if_either P false o p h k = k (λ i. false)

pub map_some : {X Y : Type 0} (P : Y → Type 0) (f : X → Y) (o : Option X) → IfSome o (λ x. P (f x)) → IfSome (option_map f o) P
map_some P f None h = tt
map_some P f (Some x) h = h

pub then_some : {X Y : Type 0} (P : Y → Type 0) (f : X → Option Y) (o : Option X) → ((x : X) → IfSome (f x) P) → IfSome (option_and_then f o) P
then_some P f None h = tt
then_some P f (Some x) h = h x

pub or_some : {X : Type 0} (P : X → Type 0) (o p : Option X) → IfSome o P → IfSome p P → IfSome (option_or o p) P
or_some P None p h k = k
or_some P (Some x) p h k = h

pub map_or_some : {X Y : Type 0} (P : Y → Type 0) (f : X → Option Y) (o : Option X) (d : Option Y) → ((x : X) → IfSome (f x) P) → IfSome d P → IfSome (option_map_or f o d) P
map_or_some P f None d h k = k
map_or_some P f (Some x) d h k = h x

-- ---- results

pub if_ok : {X E : Type 0} (P : X → Type 0) (b : Bool) (r s : Result X E) → (b ≡ true → IfOk r P) → (b ≡ false → IfOk s P) → IfOk (if b then r else s) P
if_ok P true r s h k = h (λ i. true)
if_ok P false r s h k = k (λ i. false)

pub map_or_ok : {X Y E : Type 0} (P : Y → Type 0) (Q : X → Type 0) (f : X → Result Y E) (o : Option X) (d : Result Y E) → IfSome o Q → ((x : X) → Q x → IfOk (f x) P) → IfOk d P → IfOk (option_map_or f o d) P
map_or_ok P Q f None d h k l = l
map_or_ok P Q f (Some x) d h k l = k x h

pub ok_is : {X E : Type 0} (P : X → Type 0) (r : Result X E) (x : X) → IfOk r P → r ≡ Ok x → P x
ok_is P r x h e = rw e at h

-- ---- what is taken

pub followed_some : {X Y : Type 0} (P : Y × List Token → Type 0) (Q : X × List Token → Type 0) (t : Taken X) (next : X → List Token → Taken Y)
    → IfSome t Q → ((taken : X × List Token) → Q taken → IfSome (next taken.0 taken.1) P) → IfSome (followed t next) P
followed_some P Q None next h k = tt
followed_some P Q (Some taken) next h k = k taken h

pub ended_some : {X : Type 0} (P : X → Type 0) (t : Taken X) → IfSome t (λ taken. P taken.0) → IfSome (ended t) P
ended_some P None h = tt
ended_some P (Some (x, [])) h = h
ended_some P (Some (x, token ∷ tokens)) h = tt
