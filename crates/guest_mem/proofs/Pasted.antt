-- A list with others over it from a place on, and the numbers in it.
use Rattle.std.proofs.Common.{◌≡◌, ◌⊎◌, inl, inr, ℕ, zero, suc, ◌+◌, ◌-◌, ◌/◌, ◌^◌, ◌<◌, ◌≤◌, List, [], ◌∷◌, ◌++◌, length, get_or, set, take, drop, refl, ap, sym, subst, ◌∙◌, arith, add-zero, append_assoc}
use Rattle.std.specs.Prelude.{replicate, slice_index}
use Rattle.std.proofs.lemmas.List.{places, drop_at, length-set, length-take-le, length-replicate, get_or-drop, get_or-replicate, get_or-set_other, drop-set-lt, take_more_set, take-append-drop}
use Rattle.std.proofs.lemmas.Nat.{mod_below}
use Rattle.std.proofs.lemmas.List.Edits.{paste_all}
use Rattle.std.proofs.lemmas.Slice.{put_mid-paste}
use borrow.Rule.Slice.PartMut.{put_mid}
use Rattle.std.specs.Int.{byte_at, bytes_low_first}
use Rattle.std.specs.List.{flat_map}
use Rattle.byteorder.specs.Endian.{little_from, little_number, little_bytes}
use Rattle.byteorder.specs.Numbers.{little_from-lt, little_number-reads_back, length-bytes_low_first}
use Rattle.guest_mem.specs.Ranges.{pasted, filled}

pub length-pasted : {X : Type 0} (xs ys : List X) (a : ℕ) → length (pasted xs a ys) ≡ length xs
length-pasted xs [] a = refl
length-pasted xs (y ∷ ys) a = length-pasted (set xs a y) ys (a + 1) ∙ length-set xs a y

pub get_or-pasted_other : {X : Type 0} (xs ys : List X) (a b : ℕ) (d : X) → (b < a) ⊎ (a + length ys ≤ b) → get_or (pasted xs a ys) b d ≡ get_or xs b d
get_or-pasted_other xs [] a b d out = refl
get_or-pasted_other xs (y ∷ ys) a b d (inl l) = get_or-pasted_other (set xs a y) ys (a + 1) b d (inl (omega arith)) ∙ get_or-set_other xs a b y d (λ e. omega arith)
get_or-pasted_other xs (y ∷ ys) a b d (inr l) = get_or-pasted_other (set xs a y) ys (a + 1) b d (inr (omega arith)) ∙ get_or-set_other xs a b y d (λ e. omega arith)

-- the three parts of it, where it lies inside
pub pasted-eq : {X : Type 0} (xs ys : List X) (a : ℕ) → a + length ys ≤ length xs → pasted xs a ys ≡ take a xs ++ (ys ++ drop (a + length ys) xs)
pasted-eq xs [] a h = sym (ap (λ k. take a xs ++ drop k xs) (add-zero a) ∙ take-append-drop a xs)
pasted-eq {X = X} xs (y ∷ ys) a h =
    let longer : length (set xs a y) ≡ length xs = length-set xs a y in
    let next : a + 1 + length ys ≡ a + length (y ∷ ys) = omega arith in
    pasted-eq (set xs a y) ys (a + 1) (omega arith)
    ∙ ap (λ (zs : List X). zs ++ (ys ++ drop (a + 1 + length ys) (set xs a y))) (take_more_set xs a y (omega arith))
    ∙ ap (λ (zs : List X). (take a xs ++ y ∷ []) ++ (ys ++ zs)) (drop-set-lt (a + 1 + length ys) xs a y (omega arith))
    ∙ ap (λ k. (take a xs ++ y ∷ []) ++ (ys ++ drop k xs)) next
    ∙ append_assoc (take a xs) (y ∷ []) (ys ++ drop (a + length (y ∷ ys)) xs)

pub get_or-pasted_there : {X : Type 0} (xs ys : List X) (a i : ℕ) (d : X) → a + length ys ≤ length xs → i < length ys → get_or (pasted xs a ys) (a + i) d ≡ get_or ys i d
get_or-pasted_there {X = X} xs ys a i d h l = ap (λ (zs : List X). get_or zs (a + i) d) (pasted-eq xs ys a h) ∙ grind (arith, places)

pub drop-pasted : {X : Type 0} (xs ys : List X) (a : ℕ) → a + length ys ≤ length xs → drop a (pasted xs a ys) ≡ ys ++ drop (a + length ys) xs
drop-pasted xs ys a h = ap (drop a) (pasted-eq xs ys a h) ∙ drop_at (take a xs) (ys ++ drop (a + length ys) xs) a (length-take-le a xs (omega arith))

-- after a write to `xs[a..a + k]`
pub put_mid-pasted : {X : Type 0} (a k : ℕ) (xs ys zs : List X) → ys ≡ zs → k ≡ length zs → a + length zs ≤ length xs → put_mid a k xs ys ≡ pasted xs a zs
put_mid-pasted a k xs ys zs e l h = put_mid-paste a k xs ys zs (length zs) e (sym l) refl ∙ paste_all xs a zs (length zs) refl ∙ sym (pasted-eq xs zs a h)

-- ---- one value at each place

pub length-filled : {X : Type 0} (xs : List X) (start len : ℕ) (x : X) → length (filled xs start len x) ≡ length xs
length-filled xs start len x = length-pasted xs (replicate len x) start

pub get_or-filled_other : {X : Type 0} (xs : List X) (start len b : ℕ) (x d : X) → (b < start) ⊎ (start + len ≤ b) → get_or (filled xs start len x) b d ≡ get_or xs b d
get_or-filled_other xs start len b x d out =
    get_or-pasted_other xs (replicate len x) start b d (subst (λ n. (b < start) ⊎ (start + n ≤ b)) (sym (length-replicate len x)) out)

pub get_or-filled_there : {X : Type 0} (xs : List X) (start len b : ℕ) (x d : X) → start + len ≤ length xs → start ≤ b → b < start + len → get_or (filled xs start len x) b d ≡ x
get_or-filled_there {X = X} xs start len b x d h l m =
    let n : length (replicate len x) ≡ len = length-replicate len x in
    let place : start + (b - start) ≡ b = omega arith in
    ap (λ k. get_or (filled xs start len x) k d) (sym place) ∙ get_or-pasted_there xs (replicate len x) start (b - start) d (omega arith) (omega arith) ∙ get_or-replicate len (b - start) x d (omega arith)

-- the value that is put next
pub filled-more : {X : Type 0} (xs : List X) (start n : ℕ) (x : X) → set (filled xs start n x) (start + n) x ≡ filled xs start (n + 1) x
filled-more {X = X} xs start zero x = ap (λ k. set xs k x) (add-zero start)
filled-more {X = X} xs start (suc n) x =
    let next : start + suc n ≡ start + 1 + n = omega arith in
    let count : suc (n + 1) ≡ suc n + 1 = omega arith in
    ap (λ k. set (filled (set xs start x) (start + 1) n x) k x) next ∙ filled-more (set xs start x) (start + 1) n x ∙ ap (λ k. filled xs start k x) count

-- ---- numbers

-- numbers of equal bytes, wherever they stand
little_from-same : (n j : ℕ) (xs ys : List ℕ) → ((i : ℕ) → i < n → slice_index ys (j + i) ≡ slice_index xs (j + i)) → little_from j n ys ≡ little_from j n xs
little_from-same zero j xs ys h = refl
little_from-same (suc n) j xs ys h =
    let first : slice_index ys j ≡ slice_index xs j = simp add-zero at (h 0 (omega arith)) in
    let rest : little_from (suc j) n ys ≡ little_from (suc j) n xs = little_from-same n (suc j) xs ys (λ i l. let e : suc j + i ≡ j + suc i = omega arith in rw e (h (suc i) (omega arith))) in
    rw (first, rest) refl

pub little_number-same : (n : ℕ) (xs ys : List ℕ) (a b : ℕ) → ((i : ℕ) → i < n → get_or ys (b + i) 0 ≡ get_or xs (a + i) 0) → little_number n (drop b ys) ≡ little_number n (drop a xs)
little_number-same n xs ys a b h = little_from-same n 0 (drop a xs) (drop b ys) (λ i l. let e : 0 + i ≡ i = omega arith in rw e (get_or-drop b ys i 0 ∙ h i l ∙ sym (get_or-drop a xs i 0)))

pub little_number-fits : (n : ℕ) (xs : List ℕ) (a : ℕ) → ((i : ℕ) → get_or xs i 0 < 256) → little_number n (drop a xs) < 256 ^ n
little_number-fits n xs a h = little_from-lt 0 n (drop a xs) (λ i. subst (λ (b : ℕ). b < 256) (sym (get_or-drop a xs i 0)) (h (a + i)))

-- a number that was put is there
pub little_number-pasted : (n v : ℕ) (xs : List ℕ) (a : ℕ) → v < 256 ^ n → a + n ≤ length xs → little_number n (drop a (pasted xs a (little_bytes n v))) ≡ v
little_number-pasted n v xs a l h =
    let count : length (little_bytes n v) ≡ n = length-bytes_low_first 0 n v in
    ap (little_number n) (drop-pasted xs (little_bytes n v) a (omega arith)) ∙ little_number-reads_back n v (drop (a + length (little_bytes n v)) xs) l

-- ---- sizes of bytes

pub set-fits : (xs : List ℕ) (i v n : ℕ) → ((j : ℕ) → get_or xs j 0 < n) → v < n → (k : ℕ) → get_or (set xs i v) k 0 < n
set-fits [] i v n h l k = h k
set-fits (x ∷ xs) zero v n h l zero = l
set-fits (x ∷ xs) zero v n h l (suc k) = h (suc k)
set-fits (x ∷ xs) (suc i) v n h l zero = h zero
set-fits (x ∷ xs) (suc i) v n h l (suc k) = set-fits xs i v n (λ j. h (suc j)) l k

pub pasted-fits : (xs ys : List ℕ) (a n : ℕ) → ((j : ℕ) → get_or xs j 0 < n) → ((j : ℕ) → get_or ys j 0 < n) → (k : ℕ) → get_or (pasted xs a ys) k 0 < n
pasted-fits xs [] a n h l k = h k
pasted-fits xs (y ∷ ys) a n h l k = pasted-fits (set xs a y) ys (a + 1) n (set-fits xs a y n h (l 0)) (λ j. l (suc j)) k

append-fits : (xs ys : List ℕ) (n : ℕ) → ((j : ℕ) → get_or xs j 0 < n) → ((j : ℕ) → get_or ys j 0 < n) → (k : ℕ) → get_or (xs ++ ys) k 0 < n
append-fits [] ys n h l k = l k
append-fits (x ∷ xs) ys n h l zero = h 0
append-fits (x ∷ xs) ys n h l (suc k) = append-fits xs ys n (λ j. h (suc j)) l k

byte_at-fits : (i v : ℕ) → byte_at i v < 256
byte_at-fits zero v = omega arith
byte_at-fits (suc i) v = mod_below (v / 256 ^ suc i) 256 (omega arith)

bytes_low_first-fits : (n i v k : ℕ) → get_or (bytes_low_first i n v) k 0 < 256
bytes_low_first-fits zero i v k = omega arith
bytes_low_first-fits (suc n) i v zero = byte_at-fits i v
bytes_low_first-fits (suc n) i v (suc k) = bytes_low_first-fits n (suc i) v k

pub little_bytes-fits : (n v k : ℕ) → get_or (little_bytes n v) k 0 < 256
little_bytes-fits n v k = bytes_low_first-fits n 0 v k

pub flat_map-fits : (n : ℕ) (vs : List ℕ) (k : ℕ) → get_or (flat_map (little_bytes n) vs) k 0 < 256
flat_map-fits n [] k = omega arith
flat_map-fits n (v ∷ vs) k = append-fits (little_bytes n v) (flat_map (little_bytes n) vs) 256 (little_bytes-fits n v) (flat_map-fits n vs) k

-- ---- two lists

-- one value put over both
set-either : {X : Type 0} (xs ys : List X) (a : ℕ) (x : X) (b : ℕ) (d : X) → length ys ≡ length xs
    → ((get_or (set xs a x) b d ≡ get_or xs b d) × (get_or (set ys a x) b d ≡ get_or ys b d)) ⊎ (get_or (set ys a x) b d ≡ get_or (set xs a x) b d)
set-either [] [] a x b d l = inl (refl, refl)
set-either [] (y ∷ ys) a x b d l = absurd (omega arith)
set-either (x' ∷ xs) [] a x b d l = absurd (omega arith)
set-either (x' ∷ xs) (y ∷ ys) zero x zero d l = inr refl
set-either (x' ∷ xs) (y ∷ ys) zero x (suc b) d l = inl (refl, refl)
set-either (x' ∷ xs) (y ∷ ys) (suc a) x zero d l = inl (refl, refl)
set-either (x' ∷ xs) (y ∷ ys) (suc a) x (suc b) d l = set-either xs ys a x b d (omega arith)

either_then : {X : Type 0} (u v w : X) (u' v' w' : X) → ((w ≡ v) × (w' ≡ v')) ⊎ (w' ≡ w) → ((v ≡ u) × (v' ≡ u')) ⊎ (v' ≡ v) → ((w ≡ u) × (w' ≡ u')) ⊎ (w' ≡ w)
either_then u v w u' v' w' (inr e) h = inr e
either_then u v w u' v' w' (inl p) (inl q) = inl (p.0 ∙ q.0, p.1 ∙ q.1)
either_then u v w u' v' w' (inl p) (inr e) = inr (p.1 ∙ e ∙ sym p.0)

-- where the same is put over two lists, each place stays in both, or is the same in both
pub pasted-either : {X : Type 0} (zs xs ys : List X) (a b : ℕ) (d : X) → length ys ≡ length xs
    → ((get_or (pasted xs a zs) b d ≡ get_or xs b d) × (get_or (pasted ys a zs) b d ≡ get_or ys b d)) ⊎ (get_or (pasted ys a zs) b d ≡ get_or (pasted xs a zs) b d)
pasted-either [] xs ys a b d l = inl (refl, refl)
pasted-either (z ∷ zs) xs ys a b d l =
    either_then (get_or xs b d) (get_or (set xs a z) b d) (get_or (pasted (set xs a z) (a + 1) zs) b d) (get_or ys b d) (get_or (set ys a z) b d) (get_or (pasted (set ys a z) (a + 1) zs) b d)
    (pasted-either zs (set xs a z) (set ys a z) (a + 1) b d (length-set ys a z ∙ l ∙ sym (length-set xs a z))) (set-either xs ys a z b d l)
