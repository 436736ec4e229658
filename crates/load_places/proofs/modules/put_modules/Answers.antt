use Rattle.std.proofs.Common.{arith}
use Rattle.std.proofs.lemmas.List.Elements.{All-contains}
use Rattle.load_model.specs.declared.module.Joining.{Joining}
use Rattle.load_model.specs.Layout.{HasLoadMap}
use Rattle.load_map.specs.Maps.{map_at}
use Rattle.load_places.proofs.NextModule.{all_placed, more, next, parts_count, same_there}
use Rattle.load_places.proofs.modules.put_modules.Goals as goal

pub bounds-parts-i : goal.bounds-parts-i
bounds-parts-i c = omega (arith, parts_count c.args.guest.now c.args.joining.now c.args.maps.now c.args.parts.now c.requires)

pub put_module-requires : goal.put_module-requires
put_module-requires c =
    let n = next c.args.guest.now c.loop-i.guest c.args.joining.now c.args.maps.now c.args.parts.now c.requires c.loop-i.i c.index-joining-i.result c.index-parts-i.result c.loop-i-test.true
    c.index-joining-i.is c.index-parts-i.is c.loop-i.invariant c.map_at-load_map.result.now c.map_at-load_map.ensures c.as_slice.result.now c.as_slice.ensures in
    record {
      number = n.number';
      sound = n.sound;
      segments = n.segments;
      tables = n.tables;
      inside = n.inside;
      free = n.free;
      apart = n.apart;
      parts = n.sizes;
    }

pub loop-i-preserved : goal.loop-i-preserved
loop-i-preserved c =
    more c.args.guest.now c.loop-i.guest c.args.joining.now c.args.maps.now c.args.parts.now c.requires c.loop-i.i c.index-joining-i.result c.index-parts-i.result c.loop-i-test.true
    c.index-joining-i.is c.index-parts-i.is c.loop-i.invariant c.map_at-load_map.result.now c.map_at-load_map.ensures c.as_slice.result.now c.as_slice.ensures c.put_module.new.guest
    (record {
      layout = c.put_module.ensures.layout;
      bytes = c.put_module.ensures.bytes;
      load_map = c.put_module.ensures.load_map;
      rest = c.put_module.ensures.rest;
      kinds = c.put_module.ensures.kinds;
      watch = c.put_module.ensures.watch;
      size = c.put_module.ensures.size;
    })

pub returns : goal.returns
returns c =
    let done = all_placed c.args.guest.now c.loop-i.guest c.args.joining.now c.args.maps.now c.args.parts.now c.requires c.loop-i.i (omega arith) c.loop-i.invariant in
    record {
      put = record {
        layout = done.layout;
        bytes = done.bytes;
        load_maps = λ j listed. All-contains (λ (x : Joining). HasLoadMap c.loop-i.guest x.number (map_at c.args.maps.now x.number)) c.args.joining.now j done.load_maps listed;
        stays = λ a off. same_there c.args.maps.now c.args.joining.now c.args.parts.now c.args.guest.now c.loop-i.guest a done off;
      };
      size = done.size;
    }
