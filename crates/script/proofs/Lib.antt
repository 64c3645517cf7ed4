pub mod NoisyParts
