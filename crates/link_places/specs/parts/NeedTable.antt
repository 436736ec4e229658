-- The needs that the program holds.
use Rattle.std.specs.Prelude.{List}
use Rattle.std.specs.Map.{values_of}
use Rattle.link_model.specs.declared.need.Need.{Need}
use Rattle.link_places.specs.declared.needs.NeedSet.{NeedSet}
use Rattle.link_places.specs.declared.needs.NeedTable as declared

abbrev pub needs_in : NeedSet → List Need
needs_in s = values_of s.map.entries

abbrev pub needs_of : declared.NeedTable → List Need
needs_of t = needs_in t.set
