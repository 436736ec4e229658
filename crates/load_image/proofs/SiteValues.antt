-- Sites and their values.
use Rattle.std.proofs.Common.{◌≡◌, ℕ, ◌+◌, ◌<◌, ◌≤◌, ◌⊎◌, List, [], ◌∷◌, ◌++◌, length, get_or, drop, map, Ok, refl, sym, ap, ◌∙◌, arith, append_assoc, append-nil, inl, inr, Bool}
use Rattle.std.specs.List.{flat_map}
use Rattle.std.specs.Prelude.{min}
use Rattle.std.proofs.lemmas.Bool.{cases_lt}
use Rattle.std.proofs.lemmas.List.{drop_more, drop_all}
use Rattle.elf_model.specs.declared.filled.FilledSite.{FilledSite}
use Rattle.elf_model.specs.declared.object.Object.{Object}
use Rattle.load_model.specs.declared.meaning.SiteValue.{SiteValue}
use Rattle.load_model.specs.declared.words.LinkWord.{LinkWord}
use Rattle.load_model.specs.Definition.{Linkage}
use Rattle.load_model.specs.Image.{Placing, got_words, value_words, words_for, words_of}
use Rattle.load_model.specs.Sites.{site_value, written}
use Rattle.load_model.specs.Unbound.{standing_value, stub_or, waits}
use Rattle.elf_model.specs.Filled.{sites_of}
use Rattle.load_image.specs.parts.Words.{HasValues, words_by, words_with}
use Rattle.load_image.proofs.FilledRanges.{by_rels}

-- the words by the values that are known are those of the definition
pub words_by_values : (l : Linkage) (p : Placing) (m : ℕ) (o : Object) (unbound : List Bool) (ss : List FilledSite) (values : List SiteValue)
    → map (λ (s : FilledSite). site_value l m o s.rel) ss ≡ map Ok values
    → words_by p m o unbound ss values ≡ flat_map (λ s. words_for p m o s.rel (standing_value l m o unbound s)) ss
words_by_values l p m o unbound [] values known = refl
words_by_values l p m o unbound (s ∷ ss) [] known = absurd cc
words_by_values l p m o unbound (s ∷ ss) (value ∷ values) known =
    let here : site_value l m o s.rel ≡ Ok value = cc in
    let later : map (λ (t : FilledSite). site_value l m o t.rel) ss ≡ map Ok values = cc in
    ap (λ v. words_for p m o s.rel (written (stub_or (waits unbound s) o s.rel) v) ++ words_by p m o unbound ss values) (sym here)
    ∙ ap (λ ws. words_for p m o s.rel (standing_value l m o unbound s) ++ ws) (words_by_values l p m o unbound ss values later)

-- one more site
pub values_more : (p : Placing) (m : ℕ) (o : Object) (unbound : List Bool) (ss : List FilledSite) (values : List SiteValue) (i : ℕ) (s : FilledSite) (value : SiteValue)
    (now after all : List LinkWord) → i < length ss → i < length values → s ≡ get_or ss i s → value ≡ get_or values i value
    → after ≡ now ++ value_words p m o s.rel (stub_or (waits unbound s) o s.rel value)
    → now ++ words_by p m o unbound (drop i ss) (drop i values) ≡ all
    → after ++ words_by p m o unbound (drop (i + 1) ss) (drop (i + 1) values) ≡ all
values_more p m o unbound ss values i s value now after all lt in' at is pushed before =
    let this : drop i ss ≡ s ∷ drop (i + 1) ss = drop_more ss i s lt ∙ ap (λ q. q ∷ drop (i + 1) ss) (sym at) in
    let that : drop i values ≡ value ∷ drop (i + 1) values = drop_more values i value in' ∙ ap (λ q. q ∷ drop (i + 1) values) (sym is) in
    ap (λ ws. ws ++ words_by p m o unbound (drop (i + 1) ss) (drop (i + 1) values)) pushed
    ∙ append_assoc now (value_words p m o s.rel (stub_or (waits unbound s) o s.rel value)) (words_by p m o unbound (drop (i + 1) ss) (drop (i + 1) values))
    ∙ sym (ap (λ rest. now ++ words_by p m o unbound rest (drop i values)) this ∙ ap (λ rest. now ++ words_by p m o unbound (s ∷ drop (i + 1) ss) rest) that)
    ∙ before

no_values : (p : Placing) (m : ℕ) (o : Object) (unbound : List Bool) (ss : List FilledSite) → words_by p m o unbound ss [] ≡ []
no_values p m o unbound [] = refl
no_values p m o unbound (s ∷ ss) = refl

-- no site or no value is left
pub values_all : (p : Placing) (m : ℕ) (o : Object) (unbound : List Bool) (ss : List FilledSite) (values : List SiteValue) (i : ℕ) (now all : List LinkWord)
    → i ≡ min (length ss) (length values)
    → now ++ words_by p m o unbound (drop i ss) (drop i values) ≡ all
    → now ≡ all
values_all p m o unbound ss values i now all end is =
    let way : (length ss ≤ i) ⊎ (length values ≤ i) = elim (cases_lt (length values) (length ss)) [ inl h ↦ inr (omega arith) | inr h ↦ inl (omega arith) ] in
    let none : words_by p m o unbound (drop i ss) (drop i values) ≡ [] =
    elim way [
      | inl h ↦ ap (λ qs. words_by p m o unbound qs (drop i values)) (drop_all i ss h)
      | inr h ↦ ap (λ vs. words_by p m o unbound (drop i ss) vs) (drop_all i values h) ∙ no_values p m o unbound (drop i ss)
    ] in
    sym (append-nil now) ∙ sym (ap (λ ws. now ++ ws) none) ∙ is

-- all words that loading writes are those of the definition
pub words_known : (l : Linkage) (p : Placing) (m : ℕ) (o : Object) (unbound : List Bool) (values : List SiteValue) → HasValues l m o values
    → words_with p m o unbound values ≡ words_of l p m o unbound
words_known l p m o unbound values known =
    ap (λ ws. got_words p m o.got ++ ws) (words_by_values l p m o unbound (sites_of o) values (by_rels (site_value l m o) o ∙ known))

pub words_are : (p : Placing) (m : ℕ) (o : Object) (unbound : List Bool) (values : List SiteValue) (front words : List LinkWord) (ss : List FilledSite)
    → ss ≡ sites_of o → front ≡ got_words p m o.got → words ≡ front ++ words_by p m o unbound ss values → words ≡ words_with p m o unbound values
words_are p m o unbound values front words ss sites header is =
    is
    ∙ ap (λ ws. ws ++ words_by p m o unbound ss values) header
    ∙ ap (λ qs. got_words p m o.got ++ words_by p m o unbound qs values) sites
