-- The contents of one more section.
use Rattle.std.proofs.Common.{◌≡◌, ℕ, ◌+◌, ◌<◌, Bool, true, false, cond, List, [], ◌∷◌, ◌++◌, filter, take, length, get_or, Some, ap, sym, subst, ◌∙◌}
use Rattle.std.specs.Prelude.{slice_get, Contains}
use Rattle.std.proofs.lemmas.List.{append-nil}
use Rattle.std.proofs.lemmas.List.Elements.{filter-append}
use Rattle.std.proofs.lemmas.Option.{slice_get_within, get_or_from_slice_get}
use Rattle.fd_base.proofs.Lists.{zip_push}
use Rattle.fd_base.proofs.Members.{contains_at}
use Rattle.elf_model.specs.declared.relocatable.RelObject.{RelObject}
use Rattle.link_model.specs.declared.input.Mode.{Mode}
use Rattle.link_model.specs.Inputs.{InputSection, sections_of}
use Rattle.link_names.proofs.Prefixes.{next_taken}
use Rattle.link_places.specs.declared.heads.SectionHead.{SectionHead}
use Rattle.link_places.specs.parts.Heads.{head_of, heads_of}
use Rattle.link_words.specs.declared.contents.Content.{Content}
use Rattle.link_words.specs.parts.Contents.{AreContentsOf, IsContentOf}
use Rattle.link_object.specs.parts.Filled.{is_copied}
use Rattle.link_object.proofs.Located.{head_at}

-- of the first elements those that pass, and one more that does or doesn't
pub kept_more : {X : Type 0} (p : X → Bool) (xs : List X) (i : ℕ) (x : X) (b : Bool) → slice_get xs i ≡ Some x → p x ≡ b → filter p (take (i + 1) xs) ≡ filter p (take i xs) ++ cond b (x ∷ []) []
kept_more p xs i x b at e =
    ap (filter p) (next_taken xs i x (slice_get_within xs i x at) (sym (get_or_from_slice_get xs i x x at))) ∙ filter-append p (take i xs) (x ∷ [])
    ∙ ap (λ c. filter p (take i xs) ++ cond c (x ∷ []) []) e

module _ (mode : Mode) (inputs : List RelObject) (w : Bool) (hs : List SectionHead) (i : ℕ) (d : SectionHead) (c : Content) (cs : List Content) (copied : Bool) where
  abbrev before : List InputSection
  before = filter (is_copied w) (take i (sections_of inputs))

  pub one_more : hs ≡ heads_of inputs → i < length hs → ((x : InputSection) → Contains (sections_of inputs) x → get_or hs i d ≡ head_of x → IsContentOf mode inputs x c)
      → ((x : InputSection) → get_or hs i d ≡ head_of x → IsContentOf mode inputs x c → copied ≡ is_copied w x) → AreContentsOf mode inputs before cs
      → AreContentsOf mode inputs (filter (is_copied w) (take (i + 1) (sections_of inputs))) (cond copied (cs ++ c ∷ []) cs)
  one_more heads lt gives tests are =
      let h = head_at inputs hs i d heads lt in
      let is = gives h.section' (contains_at (sections_of inputs) i h.section' h.there) h.is in
      by h.section' is copied (kept_more (is_copied w) (sections_of inputs) i h.section' copied h.there (sym (tests h.section' h.is is)))
    where
      by : (x : InputSection) → IsContentOf mode inputs x c → (b : Bool) → filter (is_copied w) (take (i + 1) (sections_of inputs)) ≡ before ++ cond b (x ∷ []) []
          → AreContentsOf mode inputs (filter (is_copied w) (take (i + 1) (sections_of inputs))) (cond b (cs ++ c ∷ []) cs)
      by x is true next = subst (λ l. AreContentsOf mode inputs l (cs ++ c ∷ [])) (sym next) (zip_push (IsContentOf mode inputs) before cs x c are is)
      by x is false next = subst (λ l. AreContentsOf mode inputs l cs) (sym (next ∙ append-nil before)) are
