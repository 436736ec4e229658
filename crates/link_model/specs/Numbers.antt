-- The sizes and limits of linked objects, which are this project's own.
use Rattle.std.specs.Prelude.{◌≡◌, ◌*◌, ◌+◌, length}
use Rattle.plt_code.specs.Words.{entry_words, call_words}
use Rattle.link_model.specs.declared.limits.TheConstants.{SEGMENT_STEP, PLT_ENTRY_SIZE, LAZY_OFFSET, MAX_NEEDS}

pub record HasNumbers : Type 0 where
  pub segment_step : SEGMENT_STEP ≡ 0x1_0000
  -- ten words, and where the call of the resolver stands among them
  pub plt_entry_size : PLT_ENTRY_SIZE ≡ 4 * length (entry_words 0 0)
  pub lazy_offset : LAZY_OFFSET ≡ 4 * (length call_words + 2)
  pub max_needs : MAX_NEEDS ≡ 65536
