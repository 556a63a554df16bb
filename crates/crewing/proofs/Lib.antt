pub mod OneCrew
