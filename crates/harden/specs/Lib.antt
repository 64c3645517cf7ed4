pub mod Hardening
