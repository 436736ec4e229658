-- The addresses of descriptors.
use Rattle.std.proofs.Common.{◌≡◌, ℕ, zero, suc, ◌+◌, ◌%◌, ◌^◌, ◌<◌, Bool, true, false, cond, List, [], ◌∷◌, ◌++◌, Option, Some, None, Result, Ok, Err, refl, ap, sym, subst, ◌∙◌, arith, All}
use Rattle.std.specs.Prelude.{◌==◌, Contains, unwrap_or, option_map}
use Rattle.std.specs.Option.{option_map_or}
use Rattle.std.specs.List.{filter_map, cons_option, find}
use Rattle.std.proofs.lemmas.Bool.{and_parts, eqb-true}
use Rattle.std.proofs.lemmas.Bool.Decides.{nat_tests}
use Rattle.std.proofs.lemmas.List.Elements.{All-head, Contains-append_left}
use Rattle.elf_model.specs.declared.constants.TheConstants.{R_ARM_FUNCDESC, R_ARM_FUNCDESC_VALUE}
use Rattle.elf_model.specs.declared.func.Func.{Func}
use Rattle.elf_model.specs.declared.object.Object.{Object}
use Rattle.elf_model.specs.declared.object.Rel.{Rel}
use Rattle.elf_model.specs.Places.{file_word}
use Rattle.load_model.specs.declared.error.LoadRefusal.{LoadRefusal}
use Rattle.load_model.specs.declared.error.LoadRefusal.TheVariants.{BadAddress, NotCode}
use Rattle.load_model.specs.declared.meaning.SiteValue.{SiteValue}
use Rattle.load_model.specs.declared.meaning.SiteValue.TheVariants.{Pair, Descriptor}
use Rattle.load_model.specs.declared.meaning.Value.{Value}
use Rattle.load_model.specs.declared.meaning.Value.TheVariants.{Address, Number}
use Rattle.load_model.specs.declared.meaning.Definition.{Definition}
use Rattle.load_model.specs.declared.meaning.Definition.TheVariants.{Symbol as Is, Nothing, Unresolved}
use Rattle.load_model.specs.declared.words.LinkWord.{LinkWord}
use Rattle.load_model.specs.Definition.{Linkage, definition_of, name_at}
use Rattle.load_model.specs.Descriptors.{is_same_func, is_private, pair_of, private_at, privates_of, listed_addr}
use Rattle.load_map.specs.Translation.{placed}
use Rattle.load_model.specs.Image.{Placing, image_of, value_words}
use Rattle.elf_model.specs.Filled.{site_relocations}
use Rattle.load_model.specs.Sites.{refusals_of, site_value, written, function_at, function_for, coded_value, value_of, addend_of, base_of, is_code, is_unnamed}
use Rattle.load_image.specs.parts.Laws.{HasWord}
use Rattle.link_sites.specs.Loaded.{IsModule, LoadedWord}
use Rattle.link_sites.specs.parts.Linked.{IsRelative, IsDynamic, HasDescriptor}
use Rattle.link_sites.specs.Meaning.{descriptor_of_value, descriptor_of_definition}
use Rattle.link_sites.proofs.Sites.{is_tested, told, told_stands, relative}

-- ---- the first that is kept and passes

-- of values that are kept, all that pass are one
pub find_kept : {X Y : Type 0} (f : X → Option Y) (p : Y → Bool) (xs : List X) (x : X) (y : Y) → Contains xs x → f x ≡ Some y → p y ≡ true
    → ((z : X) (w : Y) → Contains xs z → f z ≡ Some w → p w ≡ true → w ≡ y) → find p (filter_map f xs) ≡ Some y
find_kept f p [] x y in' is passes one = absurd (omega (arith, in'.1))
find_kept f p (z ∷ xs) x y (zero, lt, at) is passes one =
    let same : z ≡ x = at in
    ap (λ q. find p (cons_option q (filter_map f xs))) (ap f same ∙ is) ∙ ap (λ b. cond b (Some y) (find p (filter_map f xs))) passes
find_kept {Y = Y} f p (z ∷ xs) x y (suc k, lt, at) is passes one =
    let rest = find_kept f p xs x y (k, omega arith, at) is passes (λ a w in' is' passes'. one a w (suc in'.0, omega (arith, in'.1), in'.2) is' passes') in
    front (f z) (filter_map f xs) rest (λ w is' passes'. one z w (zero, omega arith, refl) is' passes')
  where
    front : (q : Option Y) (ys : List Y) → find p ys ≡ Some y → ((w : Y) → q ≡ Some w → p w ≡ true → w ≡ y) → find p (cons_option q ys) ≡ Some y
    front None ys rest one' = rest
    front (Some w) ys rest one' = by (p w) refl
      where
        by : (b : Bool) → p w ≡ b → find p (w ∷ ys) ≡ Some y
        by true is' = ap (λ b. cond b (Some w) (find p ys)) is' ∙ ap Some (one' w refl is')
        by false is' = ap (λ b. cond b (Some w) (find p ys)) is' ∙ rest

-- ---- functions of pairs

pair_value : (l : Linkage) (m : ℕ) (o : Object) (r : Rel) → r.kind ≡ R_ARM_FUNCDESC_VALUE → site_value l m o r ≡ written Pair (function_at l m o r)
unfolding site_value
pair_value l m o r kind = rw kind refl

zero_unnamed : (o : Object) (s : ℕ) → s ≡ 0 → is_unnamed o s ≡ true
zero_unnamed o s is = rw is refl

own_at : (l : Linkage) (m : ℕ) (o : Object) (r : Rel) → r.symbol ≡ 0
    → function_at l m o r ≡ cond (is_code l (record { «module» = m; value = file_word o.segments r.site % 2 ^ 32 })) (Ok (Some (record { «module» = m; value = file_word o.segments r.site % 2 ^ 32 }))) (Err (BadAddress m r.site))
own_at l m o r zero' =
    let unnamed = zero_unnamed o r.symbol zero' in
    let base : base_of o r.symbol ≡ 0 = rw zero' refl in
    let sum : (addend_of o r + base_of o r.symbol) % 2 ^ 32 ≡ file_word o.segments r.site % 2 ^ 32 = ap (λ n. (file_word o.segments r.site + n) % 2 ^ 32) base ∙ ap (λ n. n % 2 ^ 32) (omega arith) in
    let g : ℕ → Result (Option Func) LoadRefusal = λ n. cond (is_code l (record { «module» = m; value = n })) (Ok (Some (record { «module» = m; value = n }))) (Err (BadAddress m r.site)) in
    ap (λ b. cond b (g ((addend_of o r + base_of o r.symbol) % 2 ^ 32)) (function_for l m o r (definition_of l m o r.symbol))) unnamed ∙ ap g sum

-- the function of a private descriptor on symbol 0, where its site is not refused
own_pair : (l : Linkage) (m : ℕ) (o : Object) (r : Rel) → refusals_of l m o ≡ [] → Contains (site_relocations o) r → r.kind ≡ R_ARM_FUNCDESC_VALUE → r.symbol ≡ 0
    → site_value l m o r ≡ Ok (Pair (Some (record { «module» = m; value = file_word o.segments r.site % 2 ^ 32 })))
own_pair l m o r none in' kind zero' =
    let f : Func = record { «module» = m; value = file_word o.segments r.site % 2 ^ 32 } in
    let one = told l m o r none in' in
    let at : site_value l m o r ≡ written Pair (cond (is_code l f) (Ok (Some f)) (Err (BadAddress m r.site))) = pair_value l m o r kind ∙ ap (written Pair) (own_at l m o r zero') in
    by (is_code l f) refl (sym at ∙ one.1) at
  where
    by : (b : Bool) → is_code l (record { «module» = m; value = file_word o.segments r.site % 2 ^ 32 }) ≡ b
        → written Pair (cond (is_code l (record { «module» = m; value = file_word o.segments r.site % 2 ^ 32 })) (Ok (Some (record { «module» = m; value = file_word o.segments r.site % 2 ^ 32 }))) (Err (BadAddress m r.site))) ≡ Ok (told l m o r none in').0
        → site_value l m o r ≡ written Pair (cond (is_code l (record { «module» = m; value = file_word o.segments r.site % 2 ^ 32 })) (Ok (Some (record { «module» = m; value = file_word o.segments r.site % 2 ^ 32 }))) (Err (BadAddress m r.site)))
        → site_value l m o r ≡ Ok (Pair (Some (record { «module» = m; value = file_word o.segments r.site % 2 ^ 32 })))
    by true is ok at = at ∙ ap (λ b. written Pair (cond b (Ok (Some (record { «module» = m; value = file_word o.segments r.site % 2 ^ 32 }))) (Err (BadAddress m r.site)))) is
    by false is ok at = absurd (refused (BadAddress m r.site) (told l m o r none in').0 (sym (ap (λ b. written Pair (cond b (Ok (Some (record { «module» = m; value = file_word o.segments r.site % 2 ^ 32 }))) (Err (BadAddress m r.site)))) is) ∙ ok))
      where
        refused : (e : LoadRefusal) (x : SiteValue) → Err e ≡ Ok x → ⊥
        refused e x is = absurd cc

same_func : (m a b : ℕ) → is_same_func (record { «module» = m; value = a }) (record { «module» = m; value = b }) ≡ true → a ≡ b
same_func m a b is = eqb-true a b (and_parts (m == m) (a == b) is).1

is_same : (m a : ℕ) → is_same_func (record { «module» = m; value = a }) (record { «module» = m; value = a }) ≡ true
is_same m a = grind (arith, nat_tests)

private_zero : (o : Object) (r : Rel) → r.kind ≡ R_ARM_FUNCDESC_VALUE → r.symbol ≡ 0 → is_private o r ≡ true
private_zero o r kind zero' = rw (kind, zero') refl

pub listed_own : (l : Linkage) (m : ℕ) (o : Object) (v value : ℕ) → refusals_of l m o ≡ [] → HasDescriptor o v value
    → listed_addr (privates_of l (m, o)) (record { «module» = m; value = value }) ≡ Some v
listed_own l m o v value none h =
    let f : Func = record { «module» = m; value = value } in
    let r = h.rel in
    let Wanted : Func × ℕ → Bool = λ e. is_same_func f e.0 in
    let word : file_word o.segments r.site % 2 ^ 32 ≡ value = ap (λ a. file_word o.segments a % 2 ^ 32) h.site' ∙ ap (λ n. n % 2 ^ 32) h.word ∙ below value h.small in
    let in' : Contains (site_relocations o) r = in_sites r h.listed in
    let kept : private_at l m o r ≡ Some (f, v) =
    ap (λ b. cond b (option_map (λ g. (g, r.site)) (pair_of (site_value l m o r))) None) (private_zero o r h.kind' h.symbol')
    ∙ ap (λ x. option_map (λ g. (g, r.site)) (pair_of x)) (own_pair l m o r none in' h.kind' h.symbol')
    ∙ ap (λ n. Some (record { «module» = m; value = n }, r.site)) word ∙ ap (λ n. Some (f, n)) h.site' in
    ap (option_map (λ (e : Func × ℕ). e.1)) (find_kept (private_at l m o) Wanted o.rels r (f, v) h.listed kept (is_same m value) (λ z w there is passes. only z w there is passes))
  where
    in_sites : (z : Rel) → Contains o.rels z → Contains (site_relocations o) z
    in_sites z there = Contains-append_left (o.rels ++ o.jmprels) _ z (Contains-append_left o.rels o.jmprels z there)

    below : (n : ℕ) → n < 2 ^ 32 → n % 2 ^ 32 ≡ n
    below n lt = omega arith

    -- another that is kept and of this function stands at the same place
    only : (z : Rel) (w : Func × ℕ) → Contains o.rels z → private_at l m o z ≡ Some w → is_same_func (record { «module» = m; value = value }) w.0 ≡ true → w ≡ (record { «module» = m; value = value }, v)
    only z w there is passes = by (is_private o z) refl
      where
        kind_of : is_private o z ≡ true → z.kind ≡ R_ARM_FUNCDESC_VALUE
        kind_of private' = eqb-true z.kind R_ARM_FUNCDESC_VALUE (and_parts (z.kind == R_ARM_FUNCDESC_VALUE) _ private').0

        by : (b : Bool) → is_private o z ≡ b → w ≡ (record { «module» = m; value = value }, v)
        by false off =
            let none' : None ≡ Some w = sym (ap (λ b. cond b (option_map (λ g. (g, z.site)) (pair_of (site_value l m o z))) None) off) ∙ is in
            absurd cc
        by true private' =
            let kind = kind_of private' in
            let own = h.one z there kind in
            let n = file_word o.segments z.site % 2 ^ 32 in
            let at : Some (record { «module» = m; value = n }, z.site) ≡ Some w =
            sym (ap (λ b. cond b (option_map (λ g. (g, z.site)) (pair_of (site_value l m o z))) None) private'
            ∙ ap (λ x. option_map (λ g. (g, z.site)) (pair_of x)) (own_pair l m o z none (in_sites z there) kind own.0)) ∙ is in
            let whole : (record { «module» = m; value = n }, z.site) ≡ w = cc in
            let passes' : is_same_func (record { «module» = m; value = value }) (record { «module» = m; value = n }) ≡ true = ap (λ (e : Func × ℕ). is_same_func (record { «module» = m; value = value }) e.0) whole ∙ passes in
            let same : value ≡ n = same_func m value n passes' in
            let site : z.site ≡ v = own.1 (sym same) in
            sym whole ∙ ap (λ k. (record { «module» = m; value = k }, z.site)) (sym same) ∙ ap (λ a. (record { «module» = m; value = value }, a)) site

pub own_descriptor : (l : Linkage) (p : Placing) (m : ℕ) (o : Object) (v value w : ℕ) → IsModule l p m o → IsRelative o v w → HasDescriptor o w value
    → (a : ℕ) × (p.descriptors (record { «module» = m; value = value }) ≡ Some a) × LoadedWord l p m o v a
own_descriptor l p m o v value w is h d =
    (placed (p.maps m) w, is.own (record { «module» = m; value = value }) w (listed_own l m o w value is.filled d), relative l p m o v w is h)

-- ---- what the loader looks up

descriptor_value : (l : Linkage) (m : ℕ) (o : Object) (r : Rel) → r.kind ≡ R_ARM_FUNCDESC → is_unnamed o r.symbol ≡ false
    → site_value l m o r ≡ written Descriptor (function_for l m o r (definition_of l m o r.symbol))
unfolding site_value
descriptor_value l m o r kind named = rw (kind, named) refl

pub record IsDescriptorOf (p : Placing) (a : ℕ) (value : SiteValue) : Type 0 where
  pub func : Option Func
  pub is : value ≡ Descriptor func
  pub addr : option_map_or (λ f. unwrap_or (p.descriptors f) 0) func 0 ≡ a

coded_given : (l : Linkage) (p : Placing) (m : ℕ) (name : Option (List ℕ)) (v : Value) (value : SiteValue) → written Descriptor (coded_value l m name v) ≡ Ok value → IsDescriptorOf p (descriptor_of_value p v) value
coded_given l p m name (Number n) value is = absurd cc
coded_given l p m name (Address f) value is = by (is_code l f) is
  where
    by : (b : Bool) → written Descriptor (cond b (Ok (Some f)) (Err (NotCode m name))) ≡ Ok value → IsDescriptorOf p (unwrap_or (p.descriptors f) 0) value
    by true is' = record { func = Some f; is = cc; addr = refl }
    by false is' = absurd cc

function_given : (l : Linkage) (p : Placing) (m : ℕ) (o : Object) (r : Rel) (d : Definition) (value : SiteValue) → written Descriptor (function_for l m o r d) ≡ Ok value
    → IsDescriptorOf p (descriptor_of_definition l p d) value
function_given l p m o r (Is found) value is = coded_given l p m (name_at o r.symbol) (value_of l found) value is
function_given l p m o r Nothing value is = record { func = None; is = cc; addr = refl }
function_given l p m o r Unresolved value is = absurd cc

word_of : (p : Placing) (m : ℕ) (o : Object) (r : Rel) (f : Option Func) → value_words p m o r (Descriptor f) ≡ record { addr = r.site; value = option_map_or (λ g. unwrap_or (p.descriptors g) 0) f 0 } ∷ []
word_of p m o r None = refl
word_of p m o r (Some f) = refl

pub descriptor : (l : Linkage) (p : Placing) (m : ℕ) (o : Object) (v symbol w : ℕ) → IsModule l p m o → is_unnamed o symbol ≡ false → IsDynamic o v R_ARM_FUNCDESC symbol w
    → LoadedWord l p m o v (descriptor_of_definition l p (definition_of l m o symbol))
descriptor l p m o v symbol w is named h =
    let r = h.rel in
    let one = told l m o r is.filled (is_tested o r h.listed) in
    let named' : is_unnamed o r.symbol ≡ false = ap (is_unnamed o) h.symbol' ∙ named in
    let value = function_given l p m o r (definition_of l m o r.symbol) one.0 (sym (descriptor_value l m o r h.kind' named') ∙ one.1) in
    let addr = option_map_or (λ g. unwrap_or (p.descriptors g) 0) value.func 0 in
    let there : LoadedWord l p m o r.site addr = λ unbound.
    let P : List LinkWord → Type 0 = λ ws. All (HasWord (image_of l p m o unbound)) ws in
    All-head (HasWord (image_of l p m o unbound)) (record { addr = r.site; value = addr }) []
    (subst P (ap (value_words p m o r) value.is ∙ word_of p m o r value.func) (told_stands l p m o unbound r one.0 is.sound h.listed one.1)) in
    let a : addr ≡ descriptor_of_definition l p (definition_of l m o symbol) = value.addr ∙ ap (λ s. descriptor_of_definition l p (definition_of l m o s)) h.symbol' in
    subst (λ (at : ℕ). LoadedWord l p m o at (descriptor_of_definition l p (definition_of l m o symbol))) h.site' (subst (λ (n : ℕ). LoadedWord l p m o r.site n) a there)
