-- What writing a packet asks of its tables.
pub mod Ready
