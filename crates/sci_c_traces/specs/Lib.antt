-- The structs of traces, and what the judge says of them.
pub mod Judgement
pub mod Trace
