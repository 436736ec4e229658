-- The image of a module stands where what it stands on is as before.
use Rattle.std.proofs.Common.{◌≡◌, ℕ, ◌+◌, inl, inr, List, get_or, slice_get, Some, None, Result, Ok, Err, refl, sym, ap, subst, ◌∙◌}
use Rattle.std.specs.Prelude.{Contains, IfOk, option_map}
use Rattle.std.proofs.lemmas.List.Elements.{All-contains}
use Rattle.fd_base.proofs.Members.{all_contained}
use Rattle.load_map.specs.declared.entry.MapEntry.{MapEntry}
use Rattle.load_map.specs.Maps.{map_at}
use Rattle.elf_model.specs.declared.object.Object.{Object}
use Rattle.elf_model.specs.declared.object.Rel.{Rel}
use Rattle.elf_model.specs.Filled.{site_relocations}
use Rattle.load_model.specs.declared.error.LoadRefusal.{LoadRefusal}
use Rattle.load_model.specs.declared.meaning.SiteValue.{SiteValue}
use Rattle.load_model.specs.declared.meaning.SiteValue.TheVariants.{Place, Formula, Pair, Stub, Descriptor}
use Rattle.load_model.specs.declared.meaning.Value.TheVariants.{Address, Number}
use Rattle.load_model.specs.Definition.{Linkage}
use Rattle.load_model.specs.Image.{Placing, image_of}
use Rattle.load_model.specs.Linkage.{linkage_of}
use Rattle.load_model.specs.Sites.{site_value}
use Rattle.load_model.specs.Unbound.{unbound_of}
use Rattle.load_sites.specs.parts.Laws.{IsNear}
use Rattle.load_sites.proofs.LookUpsAgree.{mean_the_same}
use Rattle.load_sites.proofs.NearNames.{names_near}
use Rattle.load_image.specs.parts.Laws.{AgreeAt, SamePlace, SameSites}
use Rattle.load_image.proofs.ImageFrame.{by_values}
use Rattle.load_state.specs.Loaded.{Loaded, placing_of}
use Rattle.load_laws.specs.parts.ImageFrame.{ImagesStand, IsFramed}

module _ (old new : Loaded) (m : ℕ) (o : Object) (framed : IsFramed old new m o) where
  abbrev l : Linkage
  l = linkage_of old.modules.process

  abbrev k : Linkage
  k = linkage_of new.modules.process

  abbrev p : Placing
  p = placing_of old.modules.process old.modules.maps old.modules.addrs

  abbrev q : Placing
  q = placing_of new.modules.process new.modules.maps new.modules.addrs

  -- ---- the module and those of its scope

  near_object : (n : ℕ) → IsNear l m n → k.objects n ≡ l.objects n
  near_object n (inl is) = subst (λ (x : ℕ). k.objects x ≡ l.objects x) (sym is) framed.agree.own
  near_object n (inr there) = All-contains (λ x. k.objects x ≡ l.objects x) (l.scopes m) n framed.agree.members there

  near_place : (n : ℕ) → IsNear l m n → SamePlace p q n
  near_place n near = record {
    map = sym (framed.places n near);
    got = sym (ap (option_map (λ (x : Object). x.got)) (near_object n near));
  }

  -- ---- its sites

  named_alike : (r : Rel) → Contains (site_relocations o) r → (x : Result SiteValue LoadRefusal) → site_value l m o r ≡ x → IfOk x (AgreeAt p q)
  named_alike r there (Ok (Place f)) is = (near_place f.module (names_near l m o r (Place f) f is refl)).map
  named_alike r there (Ok (Formula (Address f))) is = (near_place f.module (names_near l m o r (Formula (Address f)) f is refl)).map
  named_alike r there (Ok (Formula (Number n))) is = tt
  named_alike r there (Ok (Pair None)) is = tt
  named_alike r there (Ok (Pair (Some f))) is = near_place f.module (names_near l m o r (Pair (Some f)) f is refl)
  named_alike r there (Ok (Stub z)) is = tt
  named_alike r there (Ok (Descriptor None)) is = tt
  named_alike r there (Ok (Descriptor (Some f))) is = sym (framed.descriptors r f there is)
  named_alike r there (Err e) is = tt

  same_sites : SameSites l k p q m o
  same_sites = record {
    own = near_place m (inl refl);
    load_map = refl;
    values = λ i d lt. sym ((mean_the_same l k m o framed.agree).values (get_or (site_relocations o) i d));
    named = all_contained (λ r. IfOk (site_value l m o r) (AgreeAt p q)) (site_relocations o) (λ r there. named_alike r there (site_value l m o r) refl);
  }

  -- ---- its image

  same_image : (v : ℕ) → image_of l p m o (unbound_of old.modules.process m) v ≡ image_of k q m o (unbound_of new.modules.process m) v
  same_image v =
      by_values l k p q m o (unbound_of old.modules.process m) same_sites v
      ∙ ap (λ unbound. image_of k q m o unbound v) (sym framed.flags)

pub images_stand_lem : ImagesStand
images_stand_lem old new m o framed had n e at i lt watched =
    let same = framed.bytes n e at i lt watched in
    let at' : slice_get (map_at old.modules.maps m) n ≡ Some e = subst (λ (es : List MapEntry). slice_get es n ≡ Some e) (framed.places m (inl refl)) at in
    same.byte ∙ had n e at' i lt (sym same.watched ∙ watched) ∙ same_image old new m o framed (e.vaddr + i)
