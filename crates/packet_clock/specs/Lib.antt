-- What accepting a packet's clock answers, and the named facts of what it accepts.
pub mod Clock
