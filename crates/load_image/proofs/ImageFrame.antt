-- What an image depends on.
use Rattle.std.proofs.Common.{◌≡◌, ℕ, ◌+◌, Bool, true, false, List, [], ◌∷◌, ◌++◌, Some, None, Ok, Err, Result, refl, ap, ◌∙◌, All}
use Rattle.std.specs.List.{flat_map}
use Rattle.std.specs.Prelude.{Contains, IfOk, unwrap_or}
use Rattle.std.proofs.lemmas.List.Elements.{All-contains}
use Rattle.fd_base.proofs.Members.{all_contained}
use Rattle.elf_model.proofs.FilledSites.{rel_listed}
use Rattle.elf_model.specs.declared.filled.FilledSite.{FilledSite}
use Rattle.fd_base.proofs.Lists.{flat_map_agree}
use Rattle.elf_model.specs.declared.object.Object.{Object}
use Rattle.elf_model.specs.declared.object.Rel.{Rel}
use Rattle.elf_model.specs.Places.{file_byte}
use Rattle.load_model.specs.declared.error.LoadRefusal.{LoadRefusal}
use Rattle.load_model.specs.declared.meaning.SiteValue.{SiteValue}
use Rattle.load_model.specs.declared.meaning.SiteValue.TheVariants.{Place, Formula, Pair, Stub, Descriptor}
use Rattle.load_model.specs.declared.meaning.Value.TheVariants.{Address, Number}
use Rattle.load_model.specs.declared.layout.TheConstants.{RESOLVER}
use Rattle.load_model.specs.declared.words.LinkWord.{LinkWord}
use Rattle.load_model.specs.Definition.{Linkage}
use Rattle.load_model.specs.Image.{Placing, byte_over, got_words, image_of, word_at, pair_at, value_words, words_for, got_of}
use Rattle.load_map.specs.Translation.{placed}
use Rattle.load_model.specs.Sites.{site_value, addend_of, written}
use Rattle.load_model.specs.Unbound.{standing_value, stub_or, waits}
use Rattle.elf_model.specs.Filled.{site_relocations, sites_of}
use Rattle.arm_relocs.specs.Value.{apply_value}
use Rattle.std.specs.Option.{option_map_or}
use Rattle.load_image.specs.parts.Laws.{SamePlace, AgreeAt, SameSites}

same_header : (p q : Placing) (m got : ℕ) → p.load_maps m ≡ q.load_maps m → got_words p m got ≡ got_words q m got
same_header p q m got table =
    ap {B = List LinkWord} (λ a. record { addr = got; value = RESOLVER } ∷ record { addr = got + 4; value = m } ∷ record { addr = got + 8; value = a } ∷ []) table

by_words : (l k : Linkage) (p q : Placing) (m : ℕ) (o : Object) (unbound : List Bool)
    → p.load_maps m ≡ q.load_maps m
    → All (λ s. words_for p m o s.rel (standing_value l m o unbound s) ≡ words_for q m o s.rel (standing_value k m o unbound s)) (sites_of o)
    → (v : ℕ) → image_of l p m o unbound v ≡ image_of k q m o unbound v
by_words l k p q m o unbound table same v =
    ap (λ ws. byte_over (ws ++ flat_map (λ s. words_for p m o s.rel (standing_value l m o unbound s)) (sites_of o)) (file_byte o.segments) v) (same_header p q m o.got table)
    ∙ ap (λ ws. byte_over (got_words q m o.got ++ ws) (file_byte o.segments) v)
    (flat_map_agree (λ s. words_for p m o s.rel (standing_value l m o unbound s)) (λ s. words_for q m o s.rel (standing_value k m o unbound s)) (sites_of o) same)

-- ---- by values

same_got : (p q : Placing) (m : ℕ) → SamePlace p q m → got_of p m ≡ got_of q m
same_got p q m same = ap (λ es. option_map_or (placed es) (p.gots m) 0) same.map ∙ ap (λ g. option_map_or (placed (q.maps m)) g 0) same.got

formulas : (p q : Placing) (m : ℕ) (o : Object) (r : Rel) (s t : ℕ) → SamePlace p q m → s ≡ t
    → word_at r.site (unwrap_or (apply_value r.kind s (addend_of o r) (placed (p.maps m) r.site) (got_of p m)) 0)
    ≡ word_at r.site (unwrap_or (apply_value r.kind t (addend_of o r) (placed (q.maps m) r.site) (got_of q m)) 0)
formulas p q m o r s t own same =
    ap (λ n. word_at r.site (unwrap_or (apply_value r.kind n (addend_of o r) (placed (p.maps m) r.site) (got_of p m)) 0)) same
    ∙ ap (λ es. word_at r.site (unwrap_or (apply_value r.kind t (addend_of o r) (placed es r.site) (got_of p m)) 0)) own.map
    ∙ ap (λ g. word_at r.site (unwrap_or (apply_value r.kind t (addend_of o r) (placed (q.maps m) r.site) g) 0)) (same_got p q m own)

same_value : (p q : Placing) (m : ℕ) (o : Object) (r : Rel) (value : SiteValue) → SamePlace p q m → AgreeAt p q value → value_words p m o r value ≡ value_words q m o r value
same_value p q m o r (Place f) own agree = ap (λ es. word_at r.site (placed es f.value)) agree
same_value p q m o r (Formula (Address f)) own agree = formulas p q m o r (placed (p.maps f.module) f.value) (placed (q.maps f.module) f.value) own (ap (λ es. placed es f.value) agree)
same_value p q m o r (Formula (Number n)) own agree = formulas p q m o r n n own refl
same_value p q m o r (Pair None) own agree = refl
same_value p q m o r (Pair (Some f)) own agree =
    ap (λ es. pair_at r.site (placed es f.value) (got_of p f.module)) agree.map ∙ ap (λ g. pair_at r.site (placed (q.maps f.module) f.value) g) (same_got p q f.module agree)
same_value p q m o r (Stub z) own agree =
    ap (λ es. pair_at r.site (placed es z) (got_of p m)) own.map ∙ ap (λ g. pair_at r.site (placed (q.maps m) z) g) (same_got p q m own)
same_value p q m o r (Descriptor None) own agree = refl
same_value p q m o r (Descriptor (Some f)) own agree = ap (λ a. word_at r.site (unwrap_or a 0)) agree

-- the same while a slot is unbound: its stub is the module's own
agree_now : (p q : Placing) (o : Object) (r : Rel) (b : Bool) (value : SiteValue) → AgreeAt p q value → AgreeAt p q (stub_or b o r value)
agree_now p q o r true value agree = tt
agree_now p q o r false value agree = agree

same_result : (p q : Placing) (m : ℕ) (o : Object) (r : Rel) (b : Bool) (v : Result SiteValue LoadRefusal) → SamePlace p q m → IfOk v (AgreeAt p q)
    → words_for p m o r (written (stub_or b o r) v) ≡ words_for q m o r (written (stub_or b o r) v)
same_result p q m o r b (Ok value) own agree = same_value p q m o r (stub_or b o r value) own (agree_now p q o r b value agree)
same_result p q m o r b (Err e) own agree = refl

-- The image of a module stands on the values of its sites, on its own place and that of its load map, on the places of what
-- these values name, and on its flags.
pub by_values : (l k : Linkage) (p q : Placing) (m : ℕ) (o : Object) (unbound : List Bool) → SameSites l k p q m o
    → (v : ℕ) → image_of l p m o unbound v ≡ image_of k q m o unbound v
by_values l k p q m o unbound same v =
    by_words l k p q m o unbound same.load_map
    (all_contained (λ s. words_for p m o s.rel (standing_value l m o unbound s) ≡ words_for q m o s.rel (standing_value k m o unbound s)) (sites_of o) each) v
  where
    each : (s : FilledSite) → Contains (sites_of o) s → words_for p m o s.rel (standing_value l m o unbound s) ≡ words_for q m o s.rel (standing_value k m o unbound s)
    each s there =
        let listed : Contains (site_relocations o) s.rel = rel_listed o s there in
        let value = All-contains (λ r. site_value l m o r ≡ site_value k m o r) (site_relocations o) s.rel same.values listed in
        let named = All-contains (λ r. IfOk (site_value l m o r) (AgreeAt p q)) (site_relocations o) s.rel same.named listed in
        same_result p q m o s.rel (waits unbound s) (site_value l m o s.rel) same.own named
        ∙ ap (λ x. words_for q m o s.rel (written (stub_or (waits unbound s) o s.rel) x)) value
