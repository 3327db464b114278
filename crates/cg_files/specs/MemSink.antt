-- The observable state of a sink in memory.
use Rattle.std.specs.Prelude.{ℕ, List}
use Rattle.cg_files.specs.Calls.{IsListed}
use Rattle.cg_files.specs.declared.memory.MemSink.{MemSink}

-- the bytes taken so far
abbrev pub taken_of : MemSink → List ℕ
taken_of sink = sink.bytes.items

-- the number of counted calls
abbrev pub calls_of : MemSink → ℕ
calls_of sink = sink.calls.made

-- the numbers of the calls that are to fail
abbrev pub failing_of : MemSink → List ℕ
failing_of sink = sink.calls.failing.items

-- the number of puts that failed as requested
abbrev pub faults_of : MemSink → ℕ
faults_of sink = sink.faults

-- the next call is to fail
abbrev pub FailsNext : MemSink → Type 0
FailsNext sink = IsListed (failing_of sink) (calls_of sink)
