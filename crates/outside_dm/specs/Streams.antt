-- Sinks over a writer.
use Rattle.std.specs.Prelude.{ℕ, List, Option}
use Rattle.outside_dm.specs.Sinks.{SinkState}
use Rattle.outside_dm.specs.declared.stream_sink.StreamSink.{StreamSink}

-- the writer that a sink keeps
abbrev pub writer_of : {W : Type 0} → StreamSink W → W
writer_of sink = sink.writer

-- what the writer holds, and the sink's counts
abbrev pub stream_state : {W : Type 0} → (W → Option (List ℕ)) → StreamSink W → SinkState
stream_state held sink = record { held = held sink.writer; faults = sink.faults; shortages = sink.shortages }
