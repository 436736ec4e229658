-- What is made of inputs that pass the tests is linked.
use Rattle.std.proofs.Common.{◌≡◌, ℕ, Bool, true, false, List, length, refl}
use Rattle.std.specs.Prelude.{Contains}
use Rattle.elf_model.specs.declared.object.Object.{Object}
use Rattle.elf_model.specs.declared.relocatable.RelObject.{RelObject}
use Rattle.elf_write.specs.ObjectFile.{object_file}
use Rattle.elf_write.specs.TableSegment.{with_tables}
use Rattle.load_map.specs.Translation.{placed}
use Rattle.load_model.specs.Definition.{Linkage}
use Rattle.load_model.specs.Image.{Placing}
use Rattle.link_model.specs.declared.input.Mode.{Mode}
use Rattle.link_model.specs.declared.need.Need.TheVariants.{Descriptor}
use Rattle.link_model.specs.Needs.{all_needs}
use Rattle.link_model.specs.Object.{object_of}
use Rattle.link_model.specs.Places.{need_place}
use Rattle.link_model.specs.Targets.{is_static}
use Rattle.link_writes.proofs.Tested.{all_passed}
use Rattle.link_sites.specs.Loaded.{IsModule}
use Rattle.link_means.specs.Linked.{LinkedMeans}
use Rattle.link_means.specs.Values.{own_descriptor}
use Rattle.link_means.specs.parts.Laws.{IsOutput}
use Rattle.link_means.proofs.Bytes.{bytes_of_files}
use Rattle.link_means.proofs.Linking.{IsClearLink, clear_link, means}
use Rattle.link_means.proofs.Output.{data_below, linked_is_output, object_is_output}
use Rattle.link_means.proofs.OwnDescriptors.{descriptors_stand, own_in_static}
use Rattle.link_means.proofs.PrivateDescriptors.{one_descriptor_each, own_outside}

-- in each mode the loader knows a function's descriptor by its place
own_known : (mode : Mode) (inputs : List RelObject) (o : Object) (l : Linkage) (p : Placing) (m a : ℕ) → IsClearLink mode inputs → IsOutput mode inputs o → IsModule l p m o → Contains (all_needs mode inputs) (Descriptor a)
    → own_descriptor mode inputs p m a ≡ placed (p.maps m) (need_place mode inputs (Descriptor a))
own_known mode inputs o l p m a link out is needed = by (is_static mode) refl
  where
    by : (b : Bool) → is_static mode ≡ b → own_descriptor mode inputs p m a ≡ placed (p.maps m) (need_place mode inputs (Descriptor a))
    by true static = own_in_static mode inputs p m a static
    by false linked = own_outside mode inputs o l p m link.clear out is linked a needed

pub linked_means : LinkedMeans
linked_means mode soname inputs libs sound bytes passes =
    let link = clear_link mode soname inputs libs sound passes in
    let o = with_tables (object_of mode soname inputs libs) in
    let out = linked_is_output mode soname inputs libs in
    record {
      layout = refl;
      sites = λ l p m x is there.
          means mode inputs o l p m x link.clear (bytes_of_files inputs bytes) out is there (link.typed x there) (link.near x there) (λ a needed. own_known mode inputs o l p m a link out is needed);
      static = λ l p m is. descriptors_stand mode inputs o l p m link.clear out is;
      one_descriptor = one_descriptor_each mode inputs (object_of mode soname inputs libs) link.clear link.typed (object_is_output mode soname inputs libs)
          (data_below mode soname inputs libs (all_passed mode inputs (λ o. length (object_file o)) soname libs passes).room.below);
    }
