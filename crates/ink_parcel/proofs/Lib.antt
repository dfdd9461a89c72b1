pub mod CutLemmas
pub mod ExactLemmas
pub mod JoinedLemmas
pub mod MovesLemmas
pub mod OwnedLemmas
pub mod PutLemmas
pub mod UnderLemmas
pub mod WalkLemmas
