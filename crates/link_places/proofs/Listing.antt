-- The sections of all inputs, one after the other.
use Rattle.std.proofs.Common.{◌≡◌, ℕ, ◌+◌, ◌<◌, ◌≤◌, List, [], ◌∷◌, ◌++◌, length, get_or, take, map, ap, sym, ◌∙◌, arith, length-append, append-nil, append_assoc}
use Rattle.std.specs.List.{enumerate_from, flat_map}
use Rattle.std.proofs.lemmas.List.{map-append, length-map, length-take, take_all, take_more}
use Rattle.std.proofs.Math.ListN.{get_or-map}
use Rattle.std.proofs.lemmas.List.FromFn.{length-enumerate_from, get_or-enumerate_from}
use Rattle.std.proofs.lemmas.Grind.{flat_map-append}
use Rattle.elf_model.specs.declared.relocatable.RelObject.{RelObject}
use Rattle.elf_model.specs.declared.relocatable.RelSection.{RelSection}
use Rattle.link_model.specs.Inputs.{numbered, sections_in}
use Rattle.link_places.specs.declared.heads.SectionHead.{SectionHead}
use Rattle.link_places.specs.parts.Heads.{head_of, heads_of, heads_from, made, parts_of}

enumerate-append : {X : Type 0} (n : ℕ) (xs ys : List X) → enumerate_from n (xs ++ ys) ≡ enumerate_from n xs ++ enumerate_from (n + length xs) ys
enumerate-append n [] ys = let none : n ≡ n + 0 = omega arith in ap (λ m. enumerate_from m ys) none
enumerate-append n (x ∷ xs) ys =
    let more : n + 1 + length xs ≡ n + length (x ∷ xs) = omega arith in
    ap (λ zs. (n, x) ∷ zs) (enumerate-append (n + 1) xs ys) ∙ ap (λ m. (n, x) ∷ enumerate_from (n + 1) xs ++ enumerate_from m ys) more

pub heads-append : (n : ℕ) (ps qs : List (ℕ × ℕ × RelSection)) → heads_from n (ps ++ qs) ≡ heads_from n ps ++ heads_from (n + length ps) qs
heads-append n ps qs =
    ap (λ es. map head_of (map made es)) (enumerate-append n ps qs)
    ∙ ap (map head_of) (map-append made (enumerate_from n ps) (enumerate_from (n + length ps) qs))
    ∙ map-append head_of (map made (enumerate_from n ps)) (map made (enumerate_from (n + length ps) qs))

pub length-heads : (n : ℕ) (ps : List (ℕ × ℕ × RelSection)) → length (heads_from n ps) ≡ length ps
length-heads n ps = length-map (map made (enumerate_from n ps)) head_of ∙ length-map (enumerate_from n ps) made ∙ length-enumerate_from n ps

-- one section more
pub heads-more : (n i : ℕ) (ps : List (ℕ × ℕ × RelSection)) (d : ℕ × ℕ × RelSection) → i < length ps → heads_from n (take (i + 1) ps) ≡ heads_from n (take i ps) ++ head_of (made (n + i, get_or ps i d)) ∷ []
heads-more n i ps d lt =
    let len : length (take i ps) ≡ i = grind (arith, length-take) in
    ap (heads_from n) (take_more ps i d lt) ∙ heads-append n (take i ps) (get_or ps i d ∷ []) ∙ ap (λ m. heads_from n (take i ps) ++ head_of (made (n + m, get_or ps i d)) ∷ []) len

-- the sections of one input more
inputs-more : (i : ℕ) (inputs : List RelObject) (d : RelObject) → i < length inputs
    → heads_from 0 (flat_map sections_in (take (i + 1) (numbered inputs)))
    ≡ heads_from 0 (flat_map sections_in (take i (numbered inputs))) ++ heads_from (length (heads_from 0 (flat_map sections_in (take i (numbered inputs))))) (parts_of i (get_or inputs i d))
inputs-more i inputs d lt =
    let e : ℕ × RelObject = (0, d) in
    let within : i < length (numbered inputs) = omega (arith, length-enumerate_from 0 inputs) in
    let here : get_or (numbered inputs) i e ≡ (0 + i, get_or inputs i d) = get_or-enumerate_from 0 inputs i e lt in
    let number : 0 + i ≡ i = omega arith in
    let front = flat_map sections_in (take i (numbered inputs)) in
    let more : flat_map sections_in (take (i + 1) (numbered inputs)) ≡ front ++ parts_of i (get_or inputs i d) =
    ap (flat_map sections_in) (take_more (numbered inputs) i e within) ∙ flat_map-append sections_in (take i (numbered inputs)) (get_or (numbered inputs) i e ∷ [])
    ∙ ap (λ x. front ++ (sections_in x ++ [])) (here ∙ ap (λ m. (m, get_or inputs i d)) number) ∙ ap (λ xs. front ++ xs) (append-nil (parts_of i (get_or inputs i d))) in
    let len : 0 + length front ≡ length (heads_from 0 front) = omega (arith, length-heads 0 front) in
    ap (heads_from 0) more ∙ heads-append 0 front (parts_of i (get_or inputs i d)) ∙ ap (λ m. heads_from 0 front ++ heads_from m (parts_of i (get_or inputs i d))) len

abbrev numbered_in : ℕ → ℕ × RelSection → ℕ × ℕ × RelSection
numbered_in input e = (input, e.0, e.1)

part-at : (input i : ℕ) (o : RelObject) (s : RelSection) → i < length o.sections → get_or (parts_of input o) i (input, 0, s) ≡ (input, i, get_or o.sections i s)
part-at input i o s lt =
    let number : 0 + i ≡ i = omega arith in
    get_or-map (numbered_in input) (numbered o.sections) i (0, s)
    ∙ ap (numbered_in input) (get_or-enumerate_from 0 o.sections i (0, s) lt) ∙ ap (λ m. (input, m, get_or o.sections i s)) number

length-parts : (input : ℕ) (o : RelObject) → length (parts_of input o) ≡ length o.sections
length-parts input o = length-map (numbered o.sections) (numbered_in input) ∙ length-enumerate_from 0 o.sections

-- a section put behind those of its input that were put before
pub put-more : (input i index number : ℕ) (o : RelObject) (s : RelSection) (before old new : List SectionHead) (x : SectionHead) → i < length o.sections → s ≡ get_or o.sections i s
    → old ≡ before ++ heads_from (length before) (take i (parts_of input o)) → index ≡ length old → number ≡ i
    → x ≡ head_of (record { index = index; input = input; number = number; section = s }) → new ≡ old ++ x ∷ []
    → new ≡ before ++ heads_from (length before) (take (i + 1) (parts_of input o))
put-more input i index number o s before old new x lt is was at' n head pushed =
    let n0 = length before in
    let ps = parts_of input o in
    let within : i < length ps = omega (arith, length-parts input o) in
    let front = heads_from n0 (take i ps) in
    let taken : length (take i ps) ≡ i = grind (arith, length-take) in
    let count : index ≡ n0 + i = at' ∙ ap length was ∙ length-append before front ∙ ap (λ m. n0 + m) (length-heads n0 (take i ps) ∙ taken) in
    let here : head_of (made (n0 + i, get_or ps i (input, 0, s))) ≡ x =
    ap (λ e. head_of (made (n0 + i, e))) (part-at input i o s lt) ∙ (λ j. head_of (record { index = sym count j; input = input; number = sym n j; section = sym is j })) ∙ sym head in
    pushed ∙ ap (λ xs. xs ++ x ∷ []) was ∙ append_assoc before front (x ∷ []) ∙ ap (λ y. before ++ (front ++ y ∷ [])) (sym here) ∙ ap (λ ys. before ++ ys) (sym (heads-more n0 i ps (input, 0, s) within))

-- the inputs whose sections are all there
pub all-there : (inputs : List RelObject) (i : ℕ) → length inputs ≤ i → heads_from 0 (flat_map sections_in (take i (numbered inputs))) ≡ heads_of inputs
all-there inputs i le =
    let far : length (numbered inputs) ≤ i = omega (arith, length-enumerate_from 0 inputs) in
    ap (λ xs. heads_from 0 (flat_map sections_in xs)) (take_all i (numbered inputs) far)

pub all-parts : (input i : ℕ) (o : RelObject) → length o.sections ≤ i → take i (parts_of input o) ≡ parts_of input o
all-parts input i o le = let far : length (parts_of input o) ≤ i = omega (arith, length-parts input o) in take_all i (parts_of input o) far

-- the sections of an input put behind those of the earlier ones
pub all-more : (i : ℕ) (inputs : List RelObject) (o : RelObject) (input : ℕ) (old new : List SectionHead) → i < length inputs → o ≡ get_or inputs i o → input ≡ i
    → old ≡ heads_from 0 (flat_map sections_in (take i (numbered inputs))) → new ≡ old ++ heads_from (length old) (parts_of input o)
    → new ≡ heads_from 0 (flat_map sections_in (take (i + 1) (numbered inputs)))
all-more i inputs o input old new lt is n was put =
    let front = heads_from 0 (flat_map sections_in (take i (numbered inputs))) in
    put ∙ ap (λ hs. hs ++ heads_from (length hs) (parts_of input o)) was ∙ (λ j. front ++ heads_from (length front) (parts_of (n j) (is j))) ∙ sym (inputs-more i inputs o lt)
