-- Linked sites after loading.
use Rattle.std.proofs.Common.{◌≡◌, ◌≢◌, ℕ, ◌+◌, ◌-◌, ◌<◌, ◌≤◌, inl, inr, Bool, true, false, cond, List, [], get_or, Result, Ok, Err, refl, ap, sym, subst, ◌∙◌, arith, All}
use Rattle.std.specs.Prelude.{Contains, unwrap_or}
use Rattle.std.specs.Result.{result_err}
use Rattle.std.proofs.lemmas.List.Elements.{All-head}
use Rattle.elf_model.specs.declared.constants.TheConstants.{R_ARM_RELATIVE, R_ARM_FUNCDESC, R_ARM_FUNCDESC_VALUE}
use Rattle.elf_model.specs.declared.object.Object.{Object}
use Rattle.elf_model.specs.declared.object.Rel.{Rel}
use Rattle.elf_model.specs.declared.table.Site.{Site}
use Rattle.elf_model.specs.Places.{file_word, filled_ranges}
use Rattle.elf_model.specs.Relocations.{word_site}
use Rattle.elf_model.specs.Sound.{IsSound, RangesApart}
use Rattle.load_model.specs.declared.error.LoadRefusal.{LoadRefusal}
use Rattle.load_model.specs.declared.error.LoadRefusal.TheVariants.{BadAddress}
use Rattle.load_model.specs.declared.meaning.SiteValue.{SiteValue}
use Rattle.load_model.specs.declared.meaning.SiteValue.TheVariants.{Place as Placed, Formula}
use Rattle.load_model.specs.declared.meaning.Value.{Value}
use Rattle.load_model.specs.Definition.{Linkage, definition_of}
use Rattle.load_map.specs.Translation.{placed}
use Rattle.load_model.specs.Image.{Placing, image_of, value_words, got_of, number_of_value}
use Rattle.elf_model.specs.declared.filled.FilledSite.{FilledSite}
use Rattle.elf_model.specs.Filled.{site_relocations, sites_of, plain_site}
use Rattle.elf_model.proofs.FilledSites.{rels_of_sites}
use Rattle.fd_base.proofs.Members.{map_in, filter_map_in, nothing_in}
use Rattle.load_model.specs.Unbound.{stub_or}
use Rattle.load_model.specs.Sites.{refusals_of, site_value, written, relative_at, value_for, value_of, placed_value, addend_of, is_placed}
use Rattle.load_model.specs.declared.meaning.Value.TheVariants.{Address, Number}
use Rattle.load_model.specs.declared.meaning.Definition.{Definition}
use Rattle.load_model.specs.declared.meaning.Definition.TheVariants.{Symbol as Is, Nothing, Unresolved}
use Rattle.arm_relocs.specs.Branch.{branch_addend}
use Rattle.fd_base.specs.Sums.{plus}
use Rattle.arm_relocs.specs.Value.{is_address_kind, apply_value}
use Rattle.std.specs.Prelude.{◌==◌, pos, ℤ, ◌+ℤ◌, ◌-ℤ◌}
use Rattle.std.specs.Option.{option_map_or}
use Rattle.std.proofs.lemmas.Int.{ints}
use Rattle.std.proofs.lemmas.Bool.Decides.{nat_tests}
use Rattle.link_sites.specs.Meaning.{BranchesTo, value_of_definition}
use Rattle.link_sites.proofs.Placing.{placed_alike}
use Rattle.load_image.specs.parts.Laws.{HasWord, IsOffSite}
use Rattle.load_image.proofs.StandingWords.{site_stands, others_stay}
use Rattle.link_sites.specs.Loaded.{IsModule, LoadedWord}
use Rattle.link_sites.specs.parts.Linked.{IsPlain, IsRelative, IsDynamic, ShareSegment}

-- ---- a word that nothing fills

pub plain : (l : Linkage) (p : Placing) (m : ℕ) (o : Object) (v w : ℕ) → IsModule l p m o → IsPlain o v w → LoadedWord l p m o v w
plain l p m o v w is h = λ unbound i lt.
    let P : Site → Type 0 = IsOffSite (v + i) in
    let outside : All P (filled_ranges o) = λ k d in'. away (get_or (filled_ranges o) k d) i lt (h.apart k d in') in
    others_stay l p m o unbound (v + i) is.sound outside ∙ h.word i lt
  where
    away : (s : Site) (i : ℕ) → i < 4 → RangesApart (word_site v) s → IsOffSite (v + i) s
    away s i lt apart = elim apart [ inl a ↦ inl (omega arith) | inr b ↦ inr (omega arith) ]

-- ---- a site whose value is told

-- a site is one of those that are tested
pub is_tested : (o : Object) (r : Rel) → Contains (sites_of o) (plain_site r) → Contains (site_relocations o) r
is_tested o r there = subst (λ (rs : List Rel). Contains rs r) (rels_of_sites o) (map_in (λ (s : FilledSite). s.rel) (sites_of o) (plain_site r) there)

pub told : (l : Linkage) (m : ℕ) (o : Object) (r : Rel) → refusals_of l m o ≡ [] → Contains (site_relocations o) r → (value : SiteValue) × (site_value l m o r ≡ Ok value)
told l m o r none there = by (site_value l m o r) refl
  where
    by : (x : Result SiteValue LoadRefusal) → site_value l m o r ≡ x → (value : SiteValue) × (site_value l m o r ≡ Ok value)
    by (Ok value) is = (value, is)
    by (Err e) is =
        let refused = filter_map_in (λ (q : Rel). result_err (site_value l m o q)) (site_relocations o) r e there (ap result_err is) in
        absurd (nothing_in e (subst (λ (es : List LoadRefusal). Contains es e) none refused))

-- what stands at a site that is no slot's, whichever slots are unbound
pub told_stands : (l : Linkage) (p : Placing) (m : ℕ) (o : Object) (unbound : List Bool) (r : Rel) (value : SiteValue) → IsSound o → Contains (sites_of o) (plain_site r)
    → site_value l m o r ≡ Ok value → All (HasWord (image_of l p m o unbound)) (value_words p m o r value)
told_stands l p m o unbound r value sound there is = site_stands l p m o unbound (plain_site r) value sound there (ap (written (stub_or false o r)) is)

-- ---- R_ARM_RELATIVE, and fixups

relative_value : (l : Linkage) (m : ℕ) (o : Object) (r : Rel) → r.kind ≡ R_ARM_RELATIVE → site_value l m o r ≡ written Placed (relative_at l m o r)
unfolding site_value
relative_value l m o r kind = rw kind refl

relative_given : (l : Linkage) (m : ℕ) (o : Object) (r : Rel) (value : SiteValue) → written Placed (relative_at l m o r) ≡ Ok value
    → value ≡ Placed (record { «module» = m; value = addend_of o r })
relative_given l m o r value is = by (is_placed l (record { «module» = m; value = addend_of o r })) is
  where
    by : (b : Bool) → written Placed (cond b (Ok (record { «module» = m; value = addend_of o r })) (Err (BadAddress m r.site))) ≡ Ok value
        → value ≡ Placed (record { «module» = m; value = addend_of o r })
    by true is = cc
    by false is = absurd cc

pub relative : (l : Linkage) (p : Placing) (m : ℕ) (o : Object) (v w : ℕ) → IsModule l p m o → IsRelative o v w → LoadedWord l p m o v (placed (p.maps m) w)
relative l p m o v w is h =
    let r = h.rel in
    let one = told l m o r is.filled (is_tested o r h.listed) in
    let value = relative_given l m o r one.0 (sym (relative_value l m o r h.kind') ∙ one.1) in
    let there : LoadedWord l p m o r.site (placed (p.maps m) (addend_of o r)) = λ unbound.
    let P : SiteValue → Type 0 = λ x. All (HasWord (image_of l p m o unbound)) (value_words p m o r x) in
    All-head (HasWord (image_of l p m o unbound)) (record { addr = r.site; value = placed (p.maps m) (addend_of o r) }) []
    (subst P value (told_stands l p m o unbound r one.0 is.sound h.listed one.1)) in
    let addend : addend_of o r ≡ w = ap (file_word o.segments) h.site' ∙ h.word in
    subst (λ (a : ℕ). LoadedWord l p m o a (placed (p.maps m) w)) h.site' (subst (λ (n : ℕ). LoadedWord l p m o r.site (placed (p.maps m) n)) addend there)

-- ---- what the loader looks up

-- the value of a definition, as it is written
pub record IsValueOf (l : Linkage) (p : Placing) (d : Definition) (value : SiteValue) : Type 0 where
  pub told : Value
  pub is : value ≡ Formula told
  pub number : number_of_value p told ≡ value_of_definition l p d

placed_given : (l : Linkage) (p : Placing) (m site : ℕ) (v : Value) (value : SiteValue) → written Formula (placed_value l m site v) ≡ Ok value → value ≡ Formula v
placed_given l p m site (Number n) value is = cc
placed_given l p m site (Address f) value is = by (is_placed l f) is
  where
    by : (b : Bool) → written Formula (cond b (Ok (Address f)) (Err (BadAddress m site))) ≡ Ok value → value ≡ Formula (Address f)
    by true is = cc
    by false is = absurd cc

value_given : (l : Linkage) (p : Placing) (m : ℕ) (o : Object) (r : Rel) (d : Definition) (value : SiteValue) → written Formula (value_for l m o r d) ≡ Ok value → IsValueOf l p d value
value_given l p m o r (Is found) value is =
    record { told = value_of l found; is = placed_given l p m r.site (value_of l found) value is; number = refl }
value_given l p m o r Nothing value is = record { told = Number 0; is = cc; number = refl }
value_given l p m o r Unresolved value is = absurd cc

not_zero : (n : ℕ) → n ≢ 0 → (n == 0) ≡ false
not_zero n ne = grind (arith, nat_tests)

formula_value : (l : Linkage) (m : ℕ) (o : Object) (r : Rel) → is_address_kind r.kind ≡ true → r.symbol ≢ 0
    → site_value l m o r ≡ written Formula (value_for l m o r (definition_of l m o r.symbol))
unfolding site_value
formula_value l m o r kind some =
    let a : (r.kind == R_ARM_RELATIVE) ≡ false = kinds r.kind R_ARM_RELATIVE kind refl in
    let b : (r.kind == R_ARM_FUNCDESC) ≡ false = kinds r.kind R_ARM_FUNCDESC kind refl in
    let c : (r.kind == R_ARM_FUNCDESC_VALUE) ≡ false = kinds r.kind R_ARM_FUNCDESC_VALUE kind refl in
    let d : (r.symbol == 0) ≡ false = not_zero r.symbol some in
    rw (a, b, c, d) refl
  where
    kinds : (k n : ℕ) → is_address_kind k ≡ true → is_address_kind n ≡ false → (k == n) ≡ false
    kinds k n yes' no' = grind (arith, nat_tests)

absolute_word : (kind s a p got : ℕ) → is_address_kind kind ≡ true → unwrap_or (apply_value kind s a p got) 0 ≡ plus s a
absolute_word kind s a p got is = rw is refl

pub dynamic : (l : Linkage) (p : Placing) (m : ℕ) (o : Object) (v kind symbol w : ℕ) → IsModule l p m o → is_address_kind kind ≡ true → IsDynamic o v kind symbol w
    → LoadedWord l p m o v (plus (value_of_definition l p (definition_of l m o symbol)) w)
dynamic l p m o v kind symbol w is absolute h =
    let r = h.rel in
    let one = told l m o r is.filled (is_tested o r h.listed) in
    let kind' : is_address_kind r.kind ≡ true = ap is_address_kind h.kind' ∙ absolute in
    let some : r.symbol ≢ 0 = λ e. h.some (sym h.symbol' ∙ e) in
    let value = value_given l p m o r (definition_of l m o r.symbol) one.0 (sym (formula_value l m o r kind' some) ∙ one.1) in
    let applied = unwrap_or (apply_value r.kind (number_of_value p value.told) (addend_of o r) (placed (p.maps m) r.site) (got_of p m)) 0 in
    let there : LoadedWord l p m o r.site applied = λ unbound.
    let P : SiteValue → Type 0 = λ x. All (HasWord (image_of l p m o unbound)) (value_words p m o r x) in
    All-head (HasWord (image_of l p m o unbound)) (record { addr = r.site; value = applied }) []
    (subst P value.is (told_stands l p m o unbound r one.0 is.sound h.listed one.1)) in
    let sum : applied ≡ plus (value_of_definition l p (definition_of l m o symbol)) w =
    absolute_word r.kind (number_of_value p value.told) (addend_of o r) (placed (p.maps m) r.site) (got_of p m) kind'
    ∙ ap (λ n. plus n (addend_of o r)) (value.number ∙ ap (λ s. value_of_definition l p (definition_of l m o s)) h.symbol')
    ∙ ap (λ n. plus (value_of_definition l p (definition_of l m o symbol)) n) (ap (file_word o.segments) h.site' ∙ h.word) in
    subst (λ (a : ℕ). LoadedWord l p m o a (plus (value_of_definition l p (definition_of l m o symbol)) w)) h.site' (subst (λ (n : ℕ). LoadedWord l p m o r.site n) sum there)

-- ---- distances

pub branch : (l : Linkage) (p : Placing) (m : ℕ) (o : Object) (v goal w : ℕ) → IsModule l p m o → IsPlain o v w → ShareSegment o v goal
    → branch_addend w ≡ pos goal -ℤ pos (v + 8) → BranchesTo l p m o v goal
branch l p m o v goal w is h shares field =
    let from = placed_alike o (p.maps m) v goal is.sound is.mapped shares in
    record { word = w; loaded = plain l p m o v w is h; leads = led (branch_addend w) (placed (p.maps m) v) (placed (p.maps m) goal) shares.segment.vaddr from.0 field from.1.first from.1.second shares.from shares.from' }
  where
    led : (d : ℤ) (a b vaddr base : ℕ) → d ≡ pos goal -ℤ pos (v + 8) → a ≡ v - vaddr + base → b ≡ goal - vaddr + base → vaddr ≤ v → vaddr ≤ goal → pos (a + 8) +ℤ d ≡ pos b
    led d a b vaddr base e f g from from' = omega (arith, ints)

pub difference : (l : Linkage) (p : Placing) (m : ℕ) (o : Object) (base goal : ℕ) → IsModule l p m o → ShareSegment o base goal
    → (pos (placed (p.maps m) goal) -ℤ pos (placed (p.maps m) base)) ≡ pos goal -ℤ pos base
difference l p m o base goal is shares =
    let from = placed_alike o (p.maps m) base goal is.sound is.mapped shares in
    same (placed (p.maps m) base) (placed (p.maps m) goal) shares.segment.vaddr from.0 from.1.first from.1.second shares.from shares.from'
  where
    same : (a b vaddr c : ℕ) → a ≡ base - vaddr + c → b ≡ goal - vaddr + c → vaddr ≤ base → vaddr ≤ goal → (pos b -ℤ pos a) ≡ pos goal -ℤ pos base
    same a b vaddr c f g from from' = omega (arith, ints)

pub in_got : (l : Linkage) (p : Placing) (m : ℕ) (o : Object) (v offset : ℕ) → IsModule l p m o → IsPlain o v offset → ShareSegment o o.got (o.got + offset)
    → LoadedWord l p m o v offset × (got_of p m + offset ≡ placed (p.maps m) (o.got + offset))
in_got l p m o v offset is h shares =
    let from = placed_alike o (p.maps m) o.got (o.got + offset) is.sound is.mapped shares in
    let got : got_of p m ≡ placed (p.maps m) o.got = ap (λ g. option_map_or (placed (p.maps m)) g 0) is.got' in
    (plain l p m o v offset is h, sum (got_of p m) (placed (p.maps m) o.got) (placed (p.maps m) (o.got + offset)) shares.segment.vaddr from.0 got from.1.first from.1.second shares.from)
  where
    sum : (g a b vaddr base : ℕ) → g ≡ a → a ≡ o.got - vaddr + base → b ≡ o.got + offset - vaddr + base → vaddr ≤ o.got → g + offset ≡ b
    sum g a b vaddr base e f h from = omega arith
