-- What is made of the answers of the system's processes.
use Rattle.std.specs.Prelude.{◌≡◌, ℤ, Option, Some, None, Result, Ok, Err, IsErr}
use Rattle.std.specs.Process.{exit_code}
use Rattle.std.specs.declared.process.status.ExitStatus.{ExitStatus}
use Rattle.dict_value.specs.declared.fault.Exit.{Exit}
use Rattle.dict_value.specs.declared.fault.Exit.TheVariants.{Code, Killed}
use Rattle.dict_io.specs.declared.outside.Failed.{Failed}
use Rattle.dict_io.specs.declared.outside.Got.{Got}
use Rattle.dict_io.specs.declared.outside.Got.TheVariants.{Bytes as GotBytes, End as GotEnd, Failed as GotFailed}
use Rattle.child_io.specs.declared.child.Heard.{Heard}
use Rattle.child_io.specs.declared.child.Heard.TheVariants.{Bytes as HeardBytes, End as HeardEnd, Failed as HeardFailed}

-- the exit by a status' code; without one the child was killed
abbrev pub exit_by_code : Option ℤ → Exit
exit_by_code (Some code) = Code code
exit_by_code None = Killed

abbrev pub exit_of : ExitStatus → Exit
exit_of status = exit_by_code (exit_code status)

-- a wait gave the exit of the status, or it failed
abbrev pub WaitsAs : {E : Type 0} → Result ExitStatus E → Result Exit Failed → Type 0
WaitsAs (Ok status) result = result ≡ Ok (exit_of status)
WaitsAs (Err _) result = IsErr result

-- what a read of a pipe gave, as a read of a child
abbrev pub heard_got : Got → Heard
heard_got (GotBytes n) = HeardBytes n
heard_got GotEnd = HeardEnd
heard_got GotFailed = HeardFailed
