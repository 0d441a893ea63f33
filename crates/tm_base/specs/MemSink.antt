-- What a sink in memory took, and which of its calls failed.
use Rattle.std.specs.Prelude.{◌⊎◌, ℕ, List, Result, IsErrOf, vec_len}
use Rattle.tm_base.specs.declared.mem_sink.MemSink.{MemSink}
use Rattle.tm_base.specs.declared.sink.SinkError.{SinkError}
use Rattle.tm_base.specs.declared.sink.SinkError.TheVariants.{Failed, Memory}

-- all bytes that were put
abbrev pub written_of : MemSink → List ℕ
written_of s = s.bytes.items

-- how many calls of `put` have failed
abbrev pub faults_of : MemSink → ℕ
faults_of s = vec_len s.failed_calls

-- how many calls of `put` there were
abbrev pub calls_of : MemSink → ℕ
calls_of s = s.plan.calls

-- the numbers of the calls that fail
abbrev pub fails_of : MemSink → List ℕ
fails_of s = s.plan.fails.items

-- the call failed, or there was no memory to keep the number of a call that fails
abbrev pub IsFault : {T : Type 0} → Result T SinkError → Type 0
IsFault answer = IsErrOf answer Failed ⊎ IsErrOf answer Memory
