-- How large linked objects are: the tables stand above all memory, and above their fixups.
use Rattle.std.proofs.Common.{◌≡◌, refl, ap, ◌∙◌, ℕ, ◌*◌, ◌^◌, ◌<◌, ◌≤◌, Bool, true, false, cond, ◌||◌, List, [], ◌∷◌, ◌++◌, length, arith, length-append}
use Rattle.std.specs.Prelude.{◌==◌, nat_lt, nat_le, Contains, Option, Some, None, IfSome, Result, Ok, Err}
use Rattle.std.specs.Option.{option_map_or}
use Rattle.std.proofs.lemmas.Bool.{or_parts}
use Rattle.std.proofs.lemmas.Bool.Decides.{nat_tests}
use Rattle.fd_base.proofs.Members.{contains_first, contains_later}
use Rattle.elf_model.specs.declared.constants.TheConstants.{MAX_ENTRIES}
use Rattle.elf_model.specs.declared.object.Object.{Object}
use Rattle.elf_model.specs.declared.relocatable.RelObject.{RelObject}
use Rattle.elf_model.specs.Test.{first_failing}
use Rattle.elf_write.specs.parts.SmallObject.{IsObjectSmall}
use Rattle.elf_write.specs.TableSegment.{fixup_words, table_end}
use Rattle.link_model.specs.declared.error.LinkErr.{LinkErr}
use Rattle.link_model.specs.declared.error.LinkErr.TheVariants.{Refused, Memory}
use Rattle.link_model.specs.declared.error.LinkRefusal.TheVariants.{TooLarge}
use Rattle.link_model.specs.declared.input.Lib.{Lib}
use Rattle.link_model.specs.declared.input.Mode.{Mode}
use Rattle.link_model.specs.Object.{object_of}
use Rattle.link_model.specs.Places.{text_end, data_end}
use Rattle.link_model.specs.Refusals.{is_crowded, size_tests}
use Rattle.link_model.specs.Segments.{text_segment, data_segment, segments_of}
use Rattle.link_model.specs.Targets.{refuses}
use Rattle.link_model.specs.parts.Passes.{Passes}
use Rattle.link_writes.specs.Linked.{written_sizes}
use Rattle.link_writes.proofs.Segmented.{ends_below, some_data}
use Rattle.fdpic_link.specs.parts.Large.{AreNamed, EndsBelow, has_many_fixups}

-- ---- memory

data_there : (mode : Mode) (inputs : List RelObject) → Contains (segments_of mode inputs) (data_segment mode inputs)
data_there mode inputs = by (text_end mode inputs == 0)
  where
    alone : Contains (data_segment mode inputs ∷ []) (data_segment mode inputs)
    alone = contains_first (data_segment mode inputs) (data_segment mode inputs) [] refl

    by : (b : Bool) → Contains (cond b (data_segment mode inputs ∷ []) (text_segment mode inputs ∷ data_segment mode inputs ∷ [])) (data_segment mode inputs)
    by true = alone
    by false = contains_later (text_segment mode inputs) (data_segment mode inputs) (data_segment mode inputs ∷ []) alone

-- an object whose tables end below 2^32 has its data below
data_below : (mode : Mode) (soname : List ℕ) (inputs : List RelObject) (libs : List Lib) → table_end (object_of mode soname inputs libs) < 2 ^ 32 → data_end mode inputs < 2 ^ 32
unfolding object_of
data_below mode soname inputs libs below =
    let end = ends_below (object_of mode soname inputs libs) (data_segment mode inputs) below (data_there mode inputs) in
    let some = some_data mode inputs in
    omega (arith, end, some)

third_fails : (a b c d : Bool) → c ≡ true → first_failing (refuses TooLarge a ∷ refuses TooLarge b ∷ refuses TooLarge c ∷ refuses TooLarge d ∷ []) ≡ Some TooLarge
third_fails true b c d e = refl
third_fails false true c d e = refl
third_fails false false true d e = refl
third_fails false false false d e = absurd cc

pub memory_beyond : (mode : Mode) (soname : List ℕ) (inputs : List RelObject) (libs : List Lib) → 2 ^ 32 ≤ data_end mode inputs
    → first_failing (size_tests written_sizes mode (object_of mode soname inputs libs) libs) ≡ Some TooLarge
memory_beyond mode soname inputs libs beyond = third_fails _ _ (nat_le (2 ^ 32) end) _ (by (nat_le (2 ^ 32) end) refl)
  where
    end : ℕ
    end = table_end (object_of mode soname inputs libs)

    by : (b : Bool) → nat_le (2 ^ 32) end ≡ b → nat_le (2 ^ 32) end ≡ true
    by true e = e
    by false e =
        let low : end < 2 ^ 32 = grind (arith, nat_tests) in
        let below = data_below mode soname inputs libs low in
        absurd (omega (arith, below, beyond))

pub memory : (mode : Mode) (inputs : List RelObject) (b : Bool) (a : Result (Unit {0}) LinkErr) → nat_le (2 ^ 32) (data_end mode inputs) ≡ b → Passes a (refuses TooLarge b ∷ [])
    → EndsBelow a mode inputs
memory mode inputs true (Ok u) e h = absurd cc
memory mode inputs false (Ok u) e h = grind (arith, nat_tests)
memory mode inputs true (Err (Refused r)) e h =
    let beyond : 2 ^ 32 ≤ data_end mode inputs = grind (arith, nat_tests) in
    λ soname libs. memory_beyond mode soname inputs libs beyond ∙ h
memory mode inputs false (Err (Refused r)) e h = absurd cc
memory mode inputs b (Err Memory) e h = λ soname libs. tt

-- ---- fixups

module _ (o : Object) where
  fixups_below : 4 * length (fixup_words o) ≤ table_end o
  fixups_below = omega arith

  fixups_beyond : (fixups : Option (List ℕ)) → o.fixups ≡ fixups → option_map_or (λ fs. nat_le (2 ^ 32) (length fs)) fixups false ≡ true → 2 ^ 32 ≤ table_end o
  fixups_beyond None e many = absurd cc
  fixups_beyond (Some fs) e many =
      let words : length (fixup_words o) ≡ length (fs ++ o.got ∷ []) = ap (λ f. length (option_map_or (λ gs. gs ++ o.got ∷ []) f [])) e in
      let one = length-append fs (o.got ∷ []) in
      let long : 2 ^ 32 ≤ length fs = grind (arith, nat_tests) in
      omega (arith, words, one, long, fixups_below)

  pub many_fixups : has_many_fixups o ≡ true → nat_le (2 ^ 32) (table_end o) ≡ true
  many_fixups many = let beyond = fixups_beyond o.fixups refl many in grind (arith, nat_tests)

  few_fixups : (fixups : Option (List ℕ)) → option_map_or (λ fs. nat_le (2 ^ 32) (length fs)) fixups false ≡ false → IfSome fixups (λ fs. length fs < 2 ^ 32)
  few_fixups None few = tt
  few_fixups (Some fs) few = grind (arith, nat_tests)

  pub is_small : AreNamed o → is_crowded o ≡ false → has_many_fixups o ≡ false → IsObjectSmall o
  is_small named few fixups =
      let crowds = or_parts (nat_lt MAX_ENTRIES (length o.symbols)) (nat_lt MAX_ENTRIES (length o.rels) || nat_lt MAX_ENTRIES (length o.jmprels)) few in
      let tables = or_parts (nat_lt MAX_ENTRIES (length o.rels)) (nat_lt MAX_ENTRIES (length o.jmprels)) crowds.1 in
      record {
        few_symbols = let e = crowds.0 in grind (arith, nat_tests);
        named = named.symbols;
        soname_named = named.own_name;
        few_needed = named.few_needed;
        needed_named = named.needed_names;
        few_rels = let e = tables.0 in grind (arith, nat_tests);
        few_slots = let e = tables.1 in grind (arith, nat_tests);
        few_fixups = few_fixups o.fixups fixups;
      }
