pub mod Usables
pub mod Gathering
pub mod Walking
pub mod Unlike
pub mod Amiss
pub mod Pairs
pub mod Linking
