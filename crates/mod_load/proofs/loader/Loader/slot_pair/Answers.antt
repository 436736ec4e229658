use Rattle.std.proofs.Common.{List, sym, subst, All}
use Rattle.load_map.specs.declared.entry.MapEntry.{MapEntry}
use Rattle.load_map.specs.parts.IsLoadMap.{EndsBelow}
use Rattle.mod_load.proofs.LoaderParts.{consistent_of, ends_of}
use Rattle.mod_load.proofs.SlotWords.{has_slots}
use Rattle.mod_load.specs.parts.SlotWords.{HasSlots}
use Rattle.mod_load.proofs.loader.Loader.slot_pair.Goals as goal

pub slot_pair-requires : goal.slot_pair-requires
slot_pair-requires c = record {
  maps = subst (λ (maps : List (List MapEntry)). All (All EndsBelow) maps) (sym c.as_slice.ensures) (ends_of c.self.view_is c.requires c.whole.ensures.whole.size);
  filled = subst (λ (maps : List (List MapEntry)). HasSlots c.self.inside.process maps c.self.inside.guest) (sym c.as_slice.ensures)
      (has_slots _ (consistent_of c.self.view_is c.requires) c.whole.ensures.whole.size);
}
