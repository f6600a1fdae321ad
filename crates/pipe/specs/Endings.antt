-- The status with which a program ends, by what failed.
use Rattle.std.specs.Prelude.{◌≡◌, ◌≢◌, ⊤}
use Rattle.std.specs.IoError.{error_kind}
use Rattle.std.specs.Process.{exit_status}
use Rattle.std.specs.declared.process.ExitCode.{ExitCode}
use Rattle.std.specs.declared.io.Error.{Error}
use Rattle.std.specs.declared.io.ErrorKind.TheVariants.{BrokenPipe}
use Rattle.pipe.specs.declared.Failure.{Failure}
use Rattle.pipe.specs.declared.Failure.TheVariants.{Input, Output, Message}

-- 141, as a shell tells it of a process that SIGPIPE ended, where nobody reads any more what is written
abbrev pub EndsWriting : Error → ExitCode → Type 0
EndsWriting e code = (error_kind e ≡ BrokenPipe → exit_status code ≡ 141) × (error_kind e ≢ BrokenPipe → exit_status code ≡ 0)

abbrev pub Ends : Failure → ExitCode → Type 0
Ends (Input e) code = exit_status code ≡ 0
Ends (Output e) code = EndsWriting e code
Ends (Message e) code = EndsWriting e code

-- which of the three failed
abbrev pub IsInput : Failure → Type 0
IsInput (Input e) = ⊤
IsInput (Output e) = ⊥
IsInput (Message e) = ⊥

abbrev pub IsOutput : Failure → Type 0
IsOutput (Input e) = ⊥
IsOutput (Output e) = ⊤
IsOutput (Message e) = ⊥

abbrev pub IsMessage : Failure → Type 0
IsMessage (Input e) = ⊥
IsMessage (Output e) = ⊥
IsMessage (Message e) = ⊤
