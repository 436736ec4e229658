-- The code that stands in the memory of every process: it is this loader's own.
use Rattle.guest_mem.specs.Memory.{GuestMemory}
use Rattle.load_model.specs.declared.layout.TheConstants.{RESOLVER, RESOLVER_WORDS, THREAD_END, END_WORDS}
use Rattle.load_model.specs.Layout.{HasBytes, bytes_of_words}

-- what binds a slot at its first call, and where threads and the process end
pub record HasStubs (memory : GuestMemory) : Type 0 where
  pub resolver : HasBytes memory RESOLVER (bytes_of_words RESOLVER_WORDS)
  pub ends : HasBytes memory THREAD_END (bytes_of_words END_WORDS)
