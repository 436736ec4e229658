use Rattle.std.proofs.Common.{◌≡◌, ◌<◌, Bool, length, All}
use Rattle.load_model.specs.Joined.{flags_of, modules_after}
use Rattle.load_process.proofs.joining.put_modules.Given as goal

-- the modules that are left come to the same from here on, and their flags are left too
abbrev pub invariant-loop-new : goal.invariant-loop-new
invariant-loop-new l = record {
  same : (lazy : Bool) → l.fn.unbound.items ≡ flags_of lazy l.fn.joining.items → record {
    flags : l.flags.rest.items ≡ flags_of lazy l.new-iterator.rest.items;
    modules' : modules_after l.modules.items lazy l.group l.new-iterator.rest.items ≡ modules_after l.fn.modules.items lazy l.group l.fn.joining.items;
  };
  within : All (λ j. j.number < length l.modules.items) l.new-iterator.rest.items;
  count : length l.flags.rest.items ≡ length l.new-iterator.rest.items;
}
