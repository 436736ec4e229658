-- Words that the loader doesn't fill.
use Rattle.std.proofs.Common.{◌≡◌, ℕ, ◌+◌, Bool, true, false, List, [], Some, None, refl, sym, ap, ◌∙◌, arith}
use Rattle.std.specs.Prelude.{Contains}
use Rattle.elf_model.specs.declared.object.Object.{Object}
use Rattle.elf_model.specs.declared.relocatable.RelObject.{RelObject}
use Rattle.elf_model.specs.Places.{file_byte}
use Rattle.elf_model.specs.Sound.{IsSound}
use Rattle.link_model.specs.declared.input.Mode.{Mode}
use Rattle.link_model.specs.Inputs.{InputRel, all_rels}
use Rattle.link_model.specs.Needs.{is_idle}
use Rattle.link_model.specs.Sections.{is_writable}
use Rattle.link_model.specs.Sites.{site_address, site_rels, site_word}
use Rattle.link_model.specs.parts.Laws.{AreClear}
use Rattle.link_model.proofs.Numbering.{section_of_rel}
use Rattle.link_model.proofs.Placed.{sections_lie_apart}
use Rattle.link_model.proofs.Sited.{address}
use Rattle.link_model.proofs.Written.{idle_word}
use Rattle.link_sites.specs.parts.Linked.{IsPlain}
use Rattle.link_sites.proofs.Sites.{plain}
use Rattle.link_means.specs.parts.Laws.{IsOutput, WordsStay, is_filled_kind}
use Rattle.link_means.proofs.Addresses.{data_word_stands}
use Rattle.link_means.proofs.Apart.{all_off, unfilled_free}
use Rattle.link_means.proofs.Texts.{text_word_is_plain}

pub written_not_idle : (mode : Mode) (inputs : List RelObject) (x : InputRel) (w : ℕ) → site_word mode inputs x ≡ Some w → is_idle (x.rel).kind ≡ false
written_not_idle mode inputs x w is = by (is_idle (x.rel).kind) refl
  where
    by : (b : Bool) → is_idle (x.rel).kind ≡ b → is_idle (x.rel).kind ≡ false
    by true idle = let never : None ≡ Some w = sym (idle_word mode inputs x idle) ∙ is in absurd cc
    by false not' = not'

-- whichever segment it lies in
pub free_word_is_plain : (mode : Mode) (inputs : List RelObject) (o : Object) (x : InputRel) (w : ℕ) → AreClear inputs → IsOutput mode inputs o → IsSound o → Contains (all_rels inputs) x
    → site_rels mode inputs x ≡ [] → site_word mode inputs x ≡ Some w → IsPlain o (site_address mode inputs x) w
free_word_is_plain mode inputs o x w clear out sound there free is = by (is_writable x.at) refl
  where
    by : (b : Bool) → is_writable x.at ≡ b → IsPlain o (site_address mode inputs x) w
    by false unwritten = text_word_is_plain mode inputs o x w clear out sound there unwritten is
    by true writable =
        let place = (sections_lie_apart.each mode inputs x.at (section_of_rel inputs x there).0).in_data writable in
        let at = address mode inputs clear x in
        record {
          word = λ i lt. ap (λ ss. file_byte ss (site_address mode inputs x + i)) out.segments' ∙ data_word_stands mode inputs clear x there out.others w writable is i lt;
          apart = all_off mode inputs clear x there (omega (arith, at, place.from)) free (written_not_idle mode inputs x w is) o out;
        }

pub word_is_plain : (mode : Mode) (inputs : List RelObject) (o : Object) (x : InputRel) (w : ℕ) → AreClear inputs → IsOutput mode inputs o → IsSound o → Contains (all_rels inputs) x
    → is_filled_kind (x.rel).kind ≡ false → site_word mode inputs x ≡ Some w → IsPlain o (site_address mode inputs x) w
word_is_plain mode inputs o x w clear out sound there other is = free_word_is_plain mode inputs o x w clear out sound there (unfilled_free mode inputs x other) is

pub words_stay : WordsStay
words_stay mode inputs o l p m x w clear out is there other written =
    plain l p m o (site_address mode inputs x) w is (word_is_plain mode inputs o x w clear out is.sound there other written)
