pub mod Unpack
