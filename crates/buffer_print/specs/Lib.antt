-- What a print answers and leaves in the buffer.
pub mod Printed
