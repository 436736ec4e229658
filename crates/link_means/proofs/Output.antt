-- The file of a linked object.
use Rattle.std.proofs.Common.{ℕ, ◌+◌, ◌*◌, ◌/◌, ◌^◌, ◌<◌, ◌≤◌, Bool, true, false, cond, List, [], ◌∷◌, refl, sym, arith}
use Rattle.std.specs.Prelude.{◌==◌}
use Rattle.std.proofs.lemmas.List.Elements.{All-cons, All-nil}
use Rattle.std.proofs.lemmas.List.{append-nil}
use Rattle.elf_model.specs.declared.object.Object.{Object}
use Rattle.elf_model.specs.declared.object.Segment.{Segment}
use Rattle.elf_model.specs.declared.relocatable.RelObject.{RelObject}
use Rattle.elf_write.specs.TableSegment.{memory_end, table_end, table_segment, tables_vaddr}
use Rattle.link_model.specs.declared.input.Lib.{Lib}
use Rattle.link_model.specs.declared.input.Mode.{Mode}
use Rattle.link_model.specs.Object.{object_of}
use Rattle.link_model.specs.Places.{data_end, text_end}
use Rattle.link_model.specs.Segments.{data_segment, segments_of, text_segment}
use Rattle.link_means.specs.parts.Laws.{IsOutput, LinkedIsOutput}

end_below : (mode : Mode) (inputs : List RelObject) → data_end mode inputs ≤ memory_end (segments_of mode inputs)
end_below mode inputs = by (text_end mode inputs == 0)
  where
    by : (b : Bool) → data_end mode inputs ≤ memory_end (cond b (data_segment mode inputs ∷ []) (text_segment mode inputs ∷ data_segment mode inputs ∷ []))
    by true = omega arith
    by false = omega arith

tables_above : (mode : Mode) (soname : List ℕ) (inputs : List RelObject) (libs : List Lib) → data_end mode inputs < tables_vaddr (object_of mode soname inputs libs)
unfolding object_of
tables_above mode soname inputs libs = past (memory_end (segments_of mode inputs)) (end_below mode inputs)
  where
    past : (n : ℕ) → data_end mode inputs ≤ n → data_end mode inputs < 0x1000 * (n / 0x1000 + 1)
    past n le = omega (arith, le)

pub linked_is_output : LinkedIsOutput
unfolding object_of
linked_is_output mode soname inputs libs = record {
  others = table_segment (object_of mode soname inputs libs) ∷ [];
  segments' = refl;
  above = All-cons (λ (s : Segment). data_end mode inputs < s.vaddr) (table_segment (object_of mode soname inputs libs)) [] (tables_above mode soname inputs libs)
      (All-nil (λ (s : Segment). data_end mode inputs < s.vaddr));
  got' = refl;
  rels' = refl;
  jmprels' = refl;
  fixups' = refl;
  symbols' = refl;
}

-- and without its tables it has no others
pub object_is_output : (mode : Mode) (soname : List ℕ) (inputs : List RelObject) (libs : List Lib) → IsOutput mode inputs (object_of mode soname inputs libs)
unfolding object_of
object_is_output mode soname inputs libs = record {
  others = [];
  segments' = sym (append-nil (segments_of mode inputs));
  above = All-nil (λ (s : Segment). data_end mode inputs < s.vaddr);
  got' = refl;
  rels' = refl;
  jmprels' = refl;
  fixups' = refl;
  symbols' = refl;
}

-- data whose tables end in 32 bits ends there too
end_of_tables : (o : Object) → tables_vaddr o ≤ table_end o
end_of_tables o = omega arith

pub data_below : (mode : Mode) (soname : List ℕ) (inputs : List RelObject) (libs : List Lib) → table_end (object_of mode soname inputs libs) < 2 ^ 32 → data_end mode inputs < 2 ^ 32
data_below mode soname inputs libs small = omega (arith, tables_above mode soname inputs libs, end_of_tables (object_of mode soname inputs libs), small)
