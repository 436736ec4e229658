-- Where slots lead at first.
use Rattle.std.proofs.Common.{◌≡◌, ℕ, ◌+◌, ◌-◌, ◌*◌, ◌%◌, ◌≤◌, true, ◌&&◌, ◌==◌, List, [], ◌∷◌, Some, sym, ap, ◌∙◌, arith}
use Rattle.std.specs.Prelude.{nat_le}
use Rattle.std.proofs.lemmas.Bool.{and_parts, eqb-true, leb-true}
use Rattle.std.proofs.lemmas.Option.{slice_get_within, cond_some, option_and_then_some}
use Rattle.elf_model.specs.declared.object.Object.{Object}
use Rattle.elf_model.specs.declared.object.Rel.{Rel}
use Rattle.elf_model.specs.declared.object.Segment.{Segment}
use Rattle.elf_model.specs.Places.{file_word, slot_of}
use Rattle.plt_code.specs.Words.{lazy_words}
use Rattle.plt_code.specs.Standing.{is_code_in, stand_at, is_near}
use Rattle.fd_base.specs.Sums.{minus}
use Rattle.plt_code.specs.Entries.{is_lazy, is_lazy_from, lazy_at, lazy_place}
use Rattle.plt_code.specs.parts.Laws.{EntriesStand, LazyCallsStand, LazyStands}
use Rattle.plt_code.proofs.Within.{has_bytes, has_both}
use Rattle.plt_code.proofs.Called.{rel_is}

-- ---- words

-- four words from an address on
pub record Four (ss : List Segment) (v a b c d : ℕ) : Type 0 where
  pub first : file_word ss v ≡ a
  pub second : file_word ss (v + 4) ≡ b
  pub third : file_word ss (v + 8) ≡ c
  pub fourth : file_word ss (v + 12) ≡ d

pub four : (ss : List Segment) (v a b c d : ℕ) → stand_at ss v (a ∷ b ∷ c ∷ d ∷ []) ≡ true → Four ss v a b c d
four ss v a b c d h =
    let one = and_parts (file_word ss v == a) (stand_at ss (v + 4) (b ∷ c ∷ d ∷ [])) h in
    let two = and_parts (file_word ss (v + 4) == b) (stand_at ss (v + 4 + 4) (c ∷ d ∷ [])) one.1 in
    let three = and_parts (file_word ss (v + 4 + 4) == c) (stand_at ss (v + 4 + 4 + 4) (d ∷ [])) two.1 in
    let last = and_parts (file_word ss (v + 4 + 4 + 4) == d) true three.1 in
    record {
      first = eqb-true (file_word ss v) a one.0;
      second = eqb-true (file_word ss (v + 4)) b two.0;
      third = moved (v + 4 + 4) (v + 8) c (omega arith) three.0;
      fourth = moved (v + 4 + 4 + 4) (v + 12) d (omega arith) last.0;
    }
  where
    moved : (x y w : ℕ) → x ≡ y → (file_word ss x == w) ≡ true → file_word ss y ≡ w
    moved x y w same e = ap (file_word ss) (sym same) ∙ eqb-true (file_word ss x) w e

-- ---- entries

pub entries_stand : EntriesStand
entries_stand = record {
  slots = λ o at slot e. slice_get_within o.jmprels slot e.rel e.is_slot;
  words = λ o at slot r e is.
      let w = four o.segments at 0xe59f_c008 0xe08c_c009 0xe59c_9004 0xe59c_f000 e.words in
      record {
        first = w.first;
        second = w.second;
        third = w.third;
        fourth = w.fourth;
        offset = e.offset ∙ ap (λ (x : Rel). minus x.site o.got) (rel_is o at slot r e is);
      };
  bytes = λ o at slot sound e. has_bytes o at 20 sound e.code;
  near = λ o at slot r e is.
      has_both o.segments (r).site o.got (ap (λ (x : Rel). is_near o.segments x.site o.got) (sym (rel_is o at slot r e is)) ∙ e.near);
}

-- ---- calls of the resolver

-- what a place tells
pub record Leads (o : Object) (k z : ℕ) : Type 0 where
  pub rel : Rel
  pub is_slot : slot_of o k ≡ Some rel
  pub there : file_word o.segments rel.site ≡ z
  pub aligned : z % 4 ≡ 0
  pub low : 4 ≤ z
  pub code : is_code_in o.segments (z - 4) 20 ≡ true
  pub offset : file_word o.segments (z - 4) ≡ 8 * k
  pub words : stand_at o.segments (z - 4 + 4) lazy_words ≡ true

leads : (o : Object) (k z : ℕ) → lazy_place o k ≡ Some z → Leads o k z
leads o k z e =
    option_and_then_some (λ (x : Rel). lazy_at o.segments k x.site)
    (slot_of o k) z e (λ r is some. read r is (cond_some (is_lazy o.segments k (file_word o.segments (r).site)) (file_word o.segments (r).site) z some))
  where
    read : (r : Rel) → slot_of o k ≡ Some r → (is_lazy o.segments k (file_word o.segments r.site) ≡ true) × (file_word o.segments r.site ≡ z) → Leads o k z
    read r is h =
        let here : is_lazy o.segments k z ≡ true = ap (is_lazy o.segments k) (sym h.1) ∙ h.0 in
        let one = and_parts (z % 4 == 0) (nat_le 4 z && is_lazy_from o.segments k (z - 4)) here in
        let two = and_parts (nat_le 4 z) (is_lazy_from o.segments k (z - 4)) one.1 in
        let three = and_parts (is_code_in o.segments (z - 4) 20) (stand_at o.segments (z - 4) (8 * k ∷ lazy_words)) two.1 in
        let four = and_parts (file_word o.segments (z - 4) == 8 * k) (stand_at o.segments (z - 4 + 4) lazy_words) three.1 in
        record {
          rel = r;
          is_slot = is;
          there = h.1;
          aligned = eqb-true (z % 4) 0 one.0;
          low = leb-true 4 z two.0;
          code = three.0;
          offset = eqb-true (file_word o.segments (z - 4)) (8 * k) four.0;
          words = four.1;
        }

lazy_stands : (o : Object) (k z : ℕ) → Leads o k z → LazyStands o k z
lazy_stands o k z l =
    let same : z - 4 + 4 ≡ z = omega (arith, l.low) in
    let w = four o.segments z 0xe51f_c00c 0xe92d_1000 0xe599_c004 0xe599_f000 (ap (λ v. stand_at o.segments v lazy_words) (sym same) ∙ l.words) in
    record { offset = l.offset; first = w.first; second = w.second; third = w.third; fourth = w.fourth }

pub lazy_calls_stand : LazyCallsStand
lazy_calls_stand = record {
  slots = λ o k z e. let l = leads o k z e in slice_get_within o.jmprels k l.rel l.is_slot;
  site = λ o k z r e is.
      let l = leads o k z e in
      let both : Some l.rel ≡ Some r = sym l.is_slot ∙ is in
      let rel : r ≡ l.rel = cc in
      ap (λ (x : Rel). file_word o.segments x.site) rel ∙ l.there;
  aligned = λ o k z e. let l = leads o k z e in (l.aligned, l.low);
  words = λ o k z e. lazy_stands o k z (leads o k z e);
  bytes = λ o k z sound e. let l = leads o k z e in has_bytes o (z - 4) 20 sound l.code;
}
