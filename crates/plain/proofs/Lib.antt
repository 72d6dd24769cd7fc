mod ArrayLaws
mod MemberLaws
