use Rattle.std.proofs.Common.{◌≡◌, ◌⊎◌, inl, inr, ◌+◌, ◌<◌, ◌≤◌, length, ap, sym, subst, ◌∙◌, arith}
use Rattle.guest_mem.specs.Memory.{GuestMemory, byte_at}
use Rattle.guest_mem.proofs.Pasted.{length-pasted}
use Rattle.load_model.specs.declared.layout.TheConstants.{RESOLVER_WORDS, END_WORDS}
use Rattle.load_model.specs.Layout.{HasBytes, bytes_of_words}
use Rattle.load_memory.proofs.PutBytes.{HasBytes-put, HasBytes-other, byte_at-other}
use Rattle.fd_base.proofs.Ranges.{outside}
use Rattle.load_memory.proofs.fresh.put_stubs.Goals as goal

pub returns-clause-stubs : goal.returns-clause-stubs
returns-clause-stubs c =
    let first : HasBytes c.fill_words.new.guest 4096 (bytes_of_words RESOLVER_WORDS) =
    subst (λ (m : GuestMemory). HasBytes m 4096 (bytes_of_words RESOLVER_WORDS)) (sym c.fill_words.ensures) (HasBytes-put c.args.guest.now 4096 (bytes_of_words RESOLVER_WORDS) (omega arith)) in
    let size : length c.fill_words.new.guest.bytes ≡ length c.args.guest.now.bytes =
    ap (λ (m : GuestMemory). length m.bytes) c.fill_words.ensures ∙ length-pasted c.args.guest.now.bytes (bytes_of_words RESOLVER_WORDS) 4096 in
    record {
      resolver = subst (λ (m : GuestMemory). HasBytes m 4096 (bytes_of_words RESOLVER_WORDS)) (sym c.fill_words-2.ensures)
          (HasBytes-other c.fill_words.new.guest 4108 (bytes_of_words END_WORDS) 4096 (bytes_of_words RESOLVER_WORDS) (inl (omega arith)) first);
      ends = subst (λ (m : GuestMemory). HasBytes m 4108 (bytes_of_words END_WORDS)) (sym c.fill_words-2.ensures)
          (HasBytes-put c.fill_words.new.guest 4108 (bytes_of_words END_WORDS) (omega (arith, size)));
    }

pub returns-clause-rest : goal.returns-clause-rest
returns-clause-rest c = λ a h.
    let out : (a < 4096) ⊎ (4096 + 20 ≤ a) = outside 4096 20 a h in
    ap (λ (m : GuestMemory). byte_at m a) c.fill_words-2.ensures
    ∙ byte_at-other c.fill_words.new.guest 4108 (bytes_of_words END_WORDS) a (elim out [ inl l ↦ inl (omega arith) | inr l ↦ inr (omega arith) ])
    ∙ ap (λ (m : GuestMemory). byte_at m a) c.fill_words.ensures
    ∙ byte_at-other c.args.guest.now 4096 (bytes_of_words RESOLVER_WORDS) a (elim out [ inl l ↦ inl (omega arith) | inr l ↦ inr (omega arith) ])
