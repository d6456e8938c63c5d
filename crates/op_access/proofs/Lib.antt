mod Facts
mod Bits
