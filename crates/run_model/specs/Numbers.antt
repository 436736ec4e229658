-- The numbers of services and of refusals, the most bytes of one service, and the steps of a call. All are this project's
-- own but the steps of a call through a bound slot, which are the instructions of an entry.
use Rattle.std.specs.Prelude.{◌≡◌}
use Rattle.run_model.specs.declared.service.TheConstants.{EXIT, OUT, DONE, TURN, LAST_ERROR, MAX_OUT, OUT_TOO_LONG, REFUSED}
use Rattle.run_model.specs.declared.thread.TheConstants.{BOUND_CALL, LONGEST_CALL}

pub record HasNumbers : Type 0 where
  pub exit : EXIT ≡ 0
  pub out : OUT ≡ 1
  pub done : DONE ≡ 6
  pub turn : TURN ≡ 7
  pub last_error : LAST_ERROR ≡ 8
  pub max_out : MAX_OUT ≡ 4096
  pub out_too_long : OUT_TOO_LONG ≡ 51
  pub refused : REFUSED ≡ 0xffffffff
  pub bound_call : BOUND_CALL ≡ 4
  pub longest_call : LONGEST_CALL ≡ 11
