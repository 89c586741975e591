-- What decoding asks of an encoded count and its partitions.
pub mod Decodable
