mod SiblingNames
